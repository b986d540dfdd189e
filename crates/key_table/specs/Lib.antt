pub mod Asked
pub mod Hash
pub mod Pairs
pub mod Cuts
pub mod Marks
pub mod Kept
pub mod Bucket
