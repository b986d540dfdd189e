pub mod Round
pub mod Told
pub mod Serving
pub mod Position
