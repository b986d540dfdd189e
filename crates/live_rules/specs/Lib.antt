pub mod Slots
pub mod Live
pub mod Laws
