pub mod Exchange
pub mod Inner
