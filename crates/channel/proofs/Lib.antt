pub mod Lists
pub mod Sent
pub mod Kept
pub mod Laws
pub mod CatchUp
pub mod Clocks
