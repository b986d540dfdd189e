pub mod Labels
pub mod Ends
pub mod Found
pub mod Covered
pub mod Lowered
