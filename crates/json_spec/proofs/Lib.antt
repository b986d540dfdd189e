pub mod Each
pub mod Refused
pub mod Computed
pub mod Trees
