mod Elements
mod Steps
mod Whole
pub mod Objects
