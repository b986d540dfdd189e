pub mod Bytes
pub mod Keys
pub mod Trees
pub mod Commands
pub mod Searches
