pub mod Texts
pub mod Each
