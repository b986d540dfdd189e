pub mod Prepared
pub mod Patterns
pub mod Groups
pub mod Tested
pub mod Answers
