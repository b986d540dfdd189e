pub mod Trace
pub mod Examples
