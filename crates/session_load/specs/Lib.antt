pub mod Stops
pub mod Files
pub mod Loads
pub mod Lists
pub mod Extensions
pub mod Tells
pub mod Asked
