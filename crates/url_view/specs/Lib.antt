pub mod Plain
pub mod Refused
