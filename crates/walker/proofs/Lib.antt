pub mod Held
pub mod Steps
pub mod Laws
pub mod ToCome
pub mod Whole
