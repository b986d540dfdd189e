pub mod Kept
pub mod Agrees
pub mod Written
pub mod Examples
