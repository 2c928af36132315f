pub mod Stats
pub mod Laws
