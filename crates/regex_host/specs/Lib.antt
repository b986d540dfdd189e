pub mod Asked
pub mod Answers
pub mod Built
pub mod Prefilter
pub mod Automaton
pub mod PackHost
pub mod ListHost
pub mod Substitution
