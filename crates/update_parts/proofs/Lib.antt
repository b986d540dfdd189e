mod InRules
mod RulesKept
mod SetsKept
mod UpdateKept
mod ElementKept
mod BatchKept
