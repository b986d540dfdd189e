pub mod Detail
pub mod Plain
