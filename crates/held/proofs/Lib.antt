pub mod Rule
pub mod Walks
pub mod Lists
pub mod Laws
pub mod Refusals
pub mod Clocks
