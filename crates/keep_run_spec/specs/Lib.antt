pub mod Words
pub mod Output
pub mod Answers
pub mod Ends
pub mod Laws
pub mod Examples
