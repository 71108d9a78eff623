pub mod Turns
pub mod Records
pub mod Starts
