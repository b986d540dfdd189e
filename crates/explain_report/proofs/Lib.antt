pub mod Commas
pub mod Pieces
pub mod Plain
