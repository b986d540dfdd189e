pub mod Ascii
pub mod Ends
pub mod Excluding
pub mod Pieces
pub mod Places
pub mod Separators
