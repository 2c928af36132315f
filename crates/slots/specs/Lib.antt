pub mod Record
pub mod Journal
pub mod Views
pub mod Writes
