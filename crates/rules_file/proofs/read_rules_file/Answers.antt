use Rattle.std.proofs.Common.{Ok, sym, ap, ◌∙◌, subst}
use Rattle.serde_json.specs.Read.{read}
use Rattle.dnr_base.specs.Faults.{Rose}
use Rattle.rule_spec.specs.declared.placed_refusal.PlacedRefusal.{PlacedRefusal}
use Rattle.rules_file.specs.declared.FileRefusal.TheVariants.{BadRules}
use Rattle.rules_file.specs.Answers.{MayRefuse}
use Rattle.rules_file.proofs.Whole.{file_is_bad, file_is_read, file_is_refused}
use Rattle.rules_file.proofs.read_rules_file.Goals as goal

pub returns-in_default-clause-refused : goal.returns-in_default-clause-refused
returns-in_default-clause-refused g c = file_is_bad c.args.kind c.args.bytes.now (λ utf8. absurd (c.in_default.ensures.cases.0 utf8))

pub returns-in-Ok-Ok-clause-ok : goal.returns-in-Ok-Ok-clause-ok
returns-in-Ok-Ok-clause-ok g c =
    let found = rw c.in-Ok-Ok.field-0-is at c.in-Ok-Ok.ensures.read in
    file_is_read c.args.kind c.args.bytes.now found.0 (Ok c.in-Ok-Ok.rules.items) c.in-Ok.ensures.cases.1 (ap read (sym c.in-Ok.ensures.cases.0) ∙ found.1) found.2

pub returns-in-Ok-Err-clause-refused : goal.returns-in-Ok-Err-clause-refused
returns-in-Ok-Err-clause-refused g c =
    let found = rw c.in-Ok-Err.field-0-is at c.in-Ok-Err.ensures.read in
    let rose = Rose (g.H.RegexHost.faults c.args.host.now) (g.H.RegexHost.faults c.read_text.new.host) in
    subst (λ (r : PlacedRefusal). MayRefuse c.args.kind c.args.bytes.now rose (BadRules r)) (sym c.named.ensures)
    (file_is_refused c.args.kind c.args.bytes.now found.0 rose c.in-Ok-Err.refusal c.in-Ok.ensures.cases.1 (ap read (sym c.in-Ok.ensures.cases.0) ∙ found.1) found.2)
