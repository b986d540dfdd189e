pub mod Stops
pub mod Texts
pub mod Started
pub mod Reading
pub mod Opens
pub mod Puts
pub mod Replays
