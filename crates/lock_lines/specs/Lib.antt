pub mod Stat
pub mod Line
