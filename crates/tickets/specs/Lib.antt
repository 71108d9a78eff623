pub mod GoingOn
pub mod Settling
pub mod Writing
