pub mod PartForms
pub mod PartFields
pub mod PartActions
pub mod RuleKept
