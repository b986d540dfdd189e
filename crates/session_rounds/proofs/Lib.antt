pub mod Written
pub mod Steps
pub mod Whole
pub mod Read
