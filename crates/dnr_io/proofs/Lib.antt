pub mod Places
pub mod Appended
pub mod Window
pub mod RawLines
pub mod Pieces
pub mod ReadSoFar
pub mod OpenFilesLemmas
