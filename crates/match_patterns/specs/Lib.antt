pub mod Parts
pub mod Stars
