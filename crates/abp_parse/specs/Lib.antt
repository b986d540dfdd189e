pub mod Cut
pub mod Excluded
pub mod NextSign
pub mod Rest
pub mod Seen
pub mod Told
