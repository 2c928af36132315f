pub mod Tests
pub mod Every
pub mod Below
pub mod Modulo
pub mod Put
pub mod Numbers
pub mod Parts
pub mod Table
