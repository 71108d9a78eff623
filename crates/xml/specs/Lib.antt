pub mod Names
pub mod Escaping
pub mod Reading
pub mod Back
pub mod Levels
pub mod Marked
