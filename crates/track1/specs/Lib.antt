pub mod Track1
