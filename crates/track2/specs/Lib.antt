pub mod Track2
