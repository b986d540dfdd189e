pub mod Computed
pub mod Names
