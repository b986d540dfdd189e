pub mod Images
pub mod Moments
pub mod Undone
pub mod Calls
pub mod Memory
pub mod Laws
