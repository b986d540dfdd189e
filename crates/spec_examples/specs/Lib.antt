pub mod Redirects
pub mod Parties
pub mod Methods
pub mod Changes
