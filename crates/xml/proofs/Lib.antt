pub mod Naming
pub mod Nine
pub mod Free
pub mod Escapes
pub mod Pieces
pub mod Written
pub mod Marking
