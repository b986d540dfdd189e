pub mod Alike
pub mod Answers
pub mod Asked
pub mod Domains
pub mod Groups
pub mod Parted
pub mod Seen
pub mod Work
