pub mod Trees
pub mod Reader
pub mod Laws
pub mod Examples
