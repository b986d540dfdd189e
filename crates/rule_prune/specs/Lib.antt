pub mod Known
pub mod Filters
pub mod Walks
pub mod Digests
