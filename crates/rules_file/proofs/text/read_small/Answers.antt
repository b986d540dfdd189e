use Rattle.std.proofs.Common.{◌≡◌, ◌∙◌, sym, ap, Result, Ok, Err, Vec, Global}
use Rattle.std.specs.Prelude.{IfOk, IfErr}
use Rattle.serde_json.specs.Data.{Data}
use Rattle.serde_json.specs.Find.{as_array}
use Rattle.serde_json.specs.Read.{read}
use Rattle.serde_json.specs.View.{view}
use Rattle.rule_spec.specs.declared.rule_kind.RuleKind.{RuleKind}
use Rattle.rule_spec.specs.declared.placed_refusal.PlacedRefusal.{PlacedRefusal}
use Rattle.rule_spec.specs.Rule.{Rule}
use Rattle.json_spec.specs.ReadRule.{read_rules}
use Rattle.rule_read.specs.Reading.{MayStop}
use Rattle.rules_file.specs.Reading.{Answers}
use Rattle.rules_file.proofs.text.read_small.Goals as goal

answer_is : (kind : RuleKind) (d : Data) (rose : Type 0) (result : Result (Vec Rule Global) PlacedRefusal) → IfOk result (λ rules. read_rules kind d ≡ Ok rules.items) → IfErr result (MayStop kind (as_array d) rose)
    → Answers kind (as_array d) rose result
unfolding read_rules
answer_is kind d rose (Ok rules) ok refused = ok
answer_is kind d rose (Err refusal) ok refused = refused

pub returns-in-Ok-clause-read : goal.returns-in-Ok-clause-read
returns-in-Ok-clause-read g c =
    (view c.in-Ok.value, ap read (sym c.as_bytes.ensures.value) ∙ c.in-Ok.ensures.read, answer_is c.args.kind (view c.in-Ok.value) _ c.read_rules.result c.read_rules.ensures.ok c.read_rules.ensures.refused)
