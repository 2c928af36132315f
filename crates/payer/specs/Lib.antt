pub mod Payer
