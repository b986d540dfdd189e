pub mod Listed
pub mod Met
pub mod Over
