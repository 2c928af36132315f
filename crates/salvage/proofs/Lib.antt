pub mod Rule
pub mod Polls
pub mod Forms
pub mod Clocks
pub mod Laws
