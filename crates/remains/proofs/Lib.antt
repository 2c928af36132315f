pub mod Bytes
pub mod Rule
pub mod Slots
pub mod Clocks
pub mod Laws
