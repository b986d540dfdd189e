pub mod Shadows
pub mod Pruned
pub mod Examples
