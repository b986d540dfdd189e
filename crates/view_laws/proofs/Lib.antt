mod Segments
mod Hosts
mod Paths
mod Ascii
mod Places
pub mod Read
