pub mod Dates
pub mod Days
