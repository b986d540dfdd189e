pub mod Known
pub mod Removed
pub mod Tapered
