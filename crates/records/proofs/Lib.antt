pub mod Naming
pub mod Entering
pub mod Varying
pub mod Standing
