pub mod RequestsComputed
pub mod LineNumbers
pub mod UpdatesComputed
