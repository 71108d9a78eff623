pub mod Frames
pub mod Memory
pub mod Lays
pub mod Checks
pub mod Opening
