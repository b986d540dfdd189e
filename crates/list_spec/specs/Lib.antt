pub mod Pieces
pub mod Entries
pub mod OptionName
pub mod Options
pub mod LineKind
pub mod Says
pub mod Examples
