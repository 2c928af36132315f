pub mod One
pub mod Turned
pub mod Going
pub mod Linked
pub mod Laws
