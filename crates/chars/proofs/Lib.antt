pub mod Walks
pub mod Chars
pub mod Bodies
pub mod Flips
pub mod Lengths
pub mod Laws
pub mod Refusals
