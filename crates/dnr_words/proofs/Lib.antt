pub mod Splitting
pub mod ServeOptions
pub mod Pairs
pub mod Numerals
pub mod Samples
pub mod HostLabels
