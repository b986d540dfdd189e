pub mod Escapes
pub mod Values
