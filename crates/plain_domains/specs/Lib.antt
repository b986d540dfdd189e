pub mod PlainDomains
