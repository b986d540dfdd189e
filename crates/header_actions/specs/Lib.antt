pub mod Refused
pub mod Effects
pub mod Standing
pub mod Table
pub mod Again
