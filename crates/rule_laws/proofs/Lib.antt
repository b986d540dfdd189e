mod HeaderTests
pub mod ReadRules
