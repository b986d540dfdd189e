pub mod Unbeaten
pub mod Orders
