pub mod Counted
pub mod Off
