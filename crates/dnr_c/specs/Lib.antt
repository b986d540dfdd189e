pub mod Owns
pub mod Codes
pub mod Given
pub mod Ends
pub mod Faults
pub mod Decides
