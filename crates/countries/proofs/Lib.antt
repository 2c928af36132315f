pub mod Rows
pub mod Fits
