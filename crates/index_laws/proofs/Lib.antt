pub mod Bytes
pub mod Fitted
pub mod Firm
pub mod Anchors
pub mod Sharing
pub mod Few
pub mod Served
