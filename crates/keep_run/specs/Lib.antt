pub mod Seen
pub mod Stops
pub mod Lines
pub mod Ends
