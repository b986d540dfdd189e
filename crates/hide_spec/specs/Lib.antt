pub mod Code
pub mod HidingLine
pub mod Hidden
pub mod Report
pub mod Examples
