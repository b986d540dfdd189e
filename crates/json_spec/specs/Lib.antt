pub mod Json
pub mod RuleFields
pub mod RuleAction
pub mod ReadRule
pub mod RulesFile
pub mod Written
pub mod MayRefuse
pub mod Examples
