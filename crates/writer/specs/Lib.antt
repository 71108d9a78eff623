pub mod Starting
pub mod Spelled
pub mod Served
pub mod Handed
pub mod Histories
pub mod Replayed
