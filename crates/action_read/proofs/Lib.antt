pub mod Changes
pub mod Names
pub mod Ops
pub mod TransformTests
