pub mod GoingOn
pub mod Writing
