mod Computed
pub mod GoesOn
pub mod Completes
