pub mod Scripts
pub mod One
pub mod Laws
