pub mod Counts
pub mod Segments
