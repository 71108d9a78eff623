pub mod Tagging
pub mod Told
pub mod Elemental
pub mod Wording
pub mod Rooting
