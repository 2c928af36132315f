pub mod Cards
pub mod Refusals
