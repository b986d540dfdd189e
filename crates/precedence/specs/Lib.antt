pub mod Laws
pub mod Best
