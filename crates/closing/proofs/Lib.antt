pub mod Closing
pub mod Ending
pub mod Standing
