pub mod Lines
pub mod Reading
pub mod Given
pub mod Installs
pub mod Decides
pub mod SentEngines
