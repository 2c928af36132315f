pub mod Calendar
pub mod Expiries
pub mod Laws
