pub mod Update
pub mod Judge
pub mod Entries
pub mod Examples
