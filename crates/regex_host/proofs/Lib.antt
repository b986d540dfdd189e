pub mod Patterns
pub mod Places
pub mod Substitutions
pub mod Prefilters
pub mod Automata
pub mod SentPatterns
pub mod SentHosts
