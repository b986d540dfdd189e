pub mod Needs
pub mod Index
pub mod Lists
pub mod Found
pub mod Kinds
pub mod Tokens
pub mod Walk
