pub mod Parts
pub mod ReadsAs
