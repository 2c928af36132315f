pub mod Summing
pub mod Rule
pub mod Laws
