pub mod Rising
pub mod Halving
pub mod Steps
pub mod Laws
