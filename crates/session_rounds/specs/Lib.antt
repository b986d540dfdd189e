pub mod Lines
pub mod Writing
pub mod Rounds
pub mod Read
