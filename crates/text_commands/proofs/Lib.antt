pub mod Ended
pub mod Tasks
pub mod Listed
pub mod Sampled
pub mod Ids
pub mod Pruned
pub mod Pages
