pub mod Normal
pub mod Read
pub mod Alike
pub mod Texts
