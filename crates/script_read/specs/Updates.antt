-- The update that brings rules of a kind.
use Rattle.std.specs.Prelude.{ℕ, List}
use Rattle.rule_spec.specs.declared.rule_kind.RuleKind.{RuleKind}
use Rattle.rule_spec.specs.declared.rule_kind.RuleKind.TheVariants as kind
use Rattle.rule_spec.specs.Rule.{Rule}
use Rattle.update_spec.specs.Update.{Update, dynamic, session}

abbrev pub made_by : RuleKind → List ℕ → List ℕ → List Rule → Update
made_by kind.Static = dynamic
made_by kind.Dynamic = dynamic
made_by kind.Session = session
