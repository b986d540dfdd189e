pub mod Parts
pub mod SaysAs
