pub mod Replaying
pub mod Tallies
pub mod Comparing
