pub mod Ids
pub mod Installed
pub mod Seen
pub mod StaticIndex
pub mod Tests
