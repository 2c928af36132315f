pub mod Laws
pub mod Both
