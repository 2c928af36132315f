pub mod Steps
pub mod Narrowest
pub mod Inside
pub mod Laws
pub mod Influence
