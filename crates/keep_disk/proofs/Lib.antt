pub mod Moments
pub mod Works
pub mod Pushed
pub mod Done
