pub mod Masked
pub mod Laws
