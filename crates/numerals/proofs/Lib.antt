pub mod Pairs
pub mod Rules
pub mod Laws
pub mod One
