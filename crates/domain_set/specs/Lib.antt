pub mod Refused
pub mod Rests
pub mod Table
pub mod Kept
