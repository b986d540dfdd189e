pub mod Stands
pub mod Shared
pub mod Segments
pub mod Served
