pub mod Words
pub mod Typed
pub mod One
