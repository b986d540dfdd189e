pub mod Files
pub mod ManifestPath
pub mod Manifest
pub mod Extensions
pub mod Examples
