pub mod Lines
mod Reaching
mod Making
