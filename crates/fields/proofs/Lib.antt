pub mod ChildKeys
pub mod AttributeKeys
pub mod Standing
pub mod Listing
