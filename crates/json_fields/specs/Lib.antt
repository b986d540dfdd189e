pub mod Behind
pub mod Held
pub mod Fields
pub mod Last
pub mod Shapes
