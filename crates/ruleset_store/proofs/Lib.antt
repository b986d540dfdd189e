pub mod Batches
pub mod Firsts
pub mod IdSets
pub mod Kept
pub mod Lists
pub mod Rows
