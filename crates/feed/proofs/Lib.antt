mod Making
mod Latest
mod Falling
pub mod Sections
