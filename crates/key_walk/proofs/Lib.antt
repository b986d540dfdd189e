pub mod Runs
pub mod Passed
pub mod Empty
pub mod Repeats
