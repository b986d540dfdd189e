pub mod Explanation
pub mod Examples
