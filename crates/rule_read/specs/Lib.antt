pub mod Seen
pub mod Reading
pub mod Ids
pub mod Tests
pub mod Asking
pub mod Calm
