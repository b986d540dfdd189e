use Rattle.std.proofs.Common.{◌≡◌, [], Some, None, Ok, sym, ap, ◌∙◌, subst, arith}
use Rattle.std.specs.Prelude.{IsSome, option_and_then}
use Rattle.serde_json.specs.Find.{get, as_array}
use Rattle.dnr_base.specs.Faults.{Rose}
use Rattle.json_spec.specs.Json.{tree_of}
use Rattle.json_spec.specs.RulesFile.{StopsInTree}
use Rattle.script_read.specs.Apart.{added_at, add_from}
use Rattle.script_read.specs.Faults.{MayRefuse}
use Rattle.script_read.proofs.Apart.{add_absent, add_other, add_rules, add_refused}
use Rattle.script_read.proofs.rules.add_of.Goals as goal

pub returns-in-Ok-Absent-clause-read : goal.returns-in-Ok-Absent-clause-read
returns-in-Ok-Absent-clause-read g c =
    let d = c.requires.0 in
    let found = (rw c.in-Ok-Absent.field-0-is at c.in-Ok-Absent.ensures.read) d c.requires.1 in
    let none : c.new.result.items ≡ [] = grind arith in
    add_absent c.args.kind d (tree_of c.args.bytes.now) c.requires.1.0 (ap (λ k. get k d) (sym c.name.ensures) ∙ found) ∙ ap Ok (sym none)

pub returns-in-Ok-Other-clause-refused : goal.returns-in-Ok-Other-clause-refused
returns-in-Ok-Other-clause-refused g c =
    let d = c.requires.0 in
    let found = (rw c.in-Ok-Other.field-0-is at c.in-Ok-Other.ensures.read) d c.requires.1 in
    let there = subst (λ k. IsSome (get k d) × (option_and_then as_array (get k d) ≡ None)) c.name.ensures found in
    add_other c.args.kind d (tree_of c.args.bytes.now) c.requires.1.0 there.0 there.1

pub returns-in-Ok-Rules-clause-read : goal.returns-in-Ok-Rules-clause-read
returns-in-Ok-Rules-clause-read g c =
    let d = c.requires.0 in
    let found = (rw c.in-Ok-Rules.field-0-is at c.in-Ok-Rules.ensures.read) d c.requires.1 in
    let listed = subst (λ k. option_and_then as_array (get k d) ≡ Some found.0) c.name.ensures found.1 in
    add_rules c.args.kind d (tree_of c.args.bytes.now) c.requires.1.0 found.0 c.in-Ok-Rules.rules.items listed found.2

pub returns-in-Ok-Refused-clause-refused : goal.returns-in-Ok-Refused-clause-refused
returns-in-Ok-Refused-clause-refused g c =
    let d = c.requires.0 in
    let tree = tree_of c.args.bytes.now in
    let found = (rw c.in-Ok-Refused.field-0-is at c.in-Ok-Refused.ensures.read) d c.requires.1 in
    let listed = subst (λ k. option_and_then as_array (get k d) ≡ Some found.0) c.name.ensures found.1 in
    let rose : Type 0 = Rose (g.H.RegexHost.faults c.args.host.now) (g.H.RegexHost.faults c.read_listed.new.host) in
    subst (MayRefuse (add_from c.args.kind tree) (λ r. rose × StopsInTree c.args.kind (added_at tree) r)) (sym c.fault_of.ensures)
    (add_refused c.args.kind d tree c.requires.1.0 found.0 rose c.in-Ok-Refused.refusal listed found.2)
