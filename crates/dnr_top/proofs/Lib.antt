pub mod Ended
pub mod Asked
pub mod Tasks
pub mod Hosts
pub mod Fresh
