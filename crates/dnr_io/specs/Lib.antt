pub mod Shelf
pub mod Files
pub mod Memory
pub mod Sink
pub mod Ahead
pub mod Lines
