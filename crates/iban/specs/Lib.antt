pub mod Iban
