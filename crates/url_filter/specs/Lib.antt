pub mod Anchor
pub mod Read
pub mod Refused
pub mod Sought
pub mod Stops
pub mod Told
