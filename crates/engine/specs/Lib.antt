pub mod Held
pub mod Asking
pub mod Opening
pub mod Decided
