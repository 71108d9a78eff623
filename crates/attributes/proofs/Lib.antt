pub mod Quotes
pub mod Standing
pub mod Valuing
pub mod Itemizing
