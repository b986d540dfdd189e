pub mod Kept
pub mod NoSuffixes
pub mod Updates
pub mod Steps
