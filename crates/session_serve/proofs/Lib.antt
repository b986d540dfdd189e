pub mod Short
pub mod SoFar
pub mod Line
pub mod Told
pub mod AtFault
