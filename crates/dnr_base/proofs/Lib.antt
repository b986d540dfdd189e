pub mod BitSets
pub mod KindSets
pub mod MethodSets
