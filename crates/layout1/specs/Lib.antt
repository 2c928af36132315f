pub mod Layout1
pub mod Grammar1
