pub mod Countries
pub mod Stored
