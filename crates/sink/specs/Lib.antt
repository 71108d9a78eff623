pub mod Puts
pub mod Pages
