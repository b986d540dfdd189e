pub mod Stops
pub mod Ids
pub mod Objects
pub mod Resources
pub mod Sets
pub mod Whole
pub mod Manifests
