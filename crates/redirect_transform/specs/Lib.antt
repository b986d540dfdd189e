pub mod Counter
pub mod Parts
pub mod Piece
pub mod Written
