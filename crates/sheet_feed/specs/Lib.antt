pub mod Asking
pub mod FirstTask
pub mod Exits
pub mod Ending
