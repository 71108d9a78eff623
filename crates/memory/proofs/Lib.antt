pub mod Laying
pub mod Opening
pub mod Lending
