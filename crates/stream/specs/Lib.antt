pub mod Stream
pub mod Bits
