pub mod NoSuffixes
pub mod Stopped
pub mod Read
