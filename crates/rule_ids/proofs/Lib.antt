pub mod IdSets
pub mod Ranges
pub mod Ranks
