pub mod Domains
pub mod Filters
pub mod Found
pub mod Pieces
pub mod Skipped
