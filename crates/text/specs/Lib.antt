pub mod Bytes
pub mod Numbers
pub mod Parts
pub mod Tables
