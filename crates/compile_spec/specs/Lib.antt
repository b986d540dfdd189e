pub mod Alike
pub mod Initiators
pub mod Compiled
pub mod Report
pub mod Installed
pub mod Examples
