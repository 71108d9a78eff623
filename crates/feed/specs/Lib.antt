pub mod Setups
pub mod Making
pub mod Batches
pub mod Telling
pub mod Sections
