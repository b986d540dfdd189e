pub mod Inserted
pub mod Plain
pub mod Texts
