pub mod Beginnings
pub mod Entering
pub mod Next
pub mod Coming
pub mod Counted
pub mod Passes
