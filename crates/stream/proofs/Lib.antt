pub mod Streams
pub mod Numbers
pub mod Windows
