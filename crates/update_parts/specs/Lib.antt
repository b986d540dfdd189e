pub mod Parts
pub mod SpeaksAs
pub mod Batch
