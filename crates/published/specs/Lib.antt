pub mod Content
pub mod Shared
pub mod Ahead
pub mod Refused
pub mod Pass
pub mod Counted
