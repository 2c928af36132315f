pub mod Starts
pub mod Rules
pub mod FlipBytes
pub mod Lengths
pub mod Laws
pub mod Refusals
pub mod Counts
