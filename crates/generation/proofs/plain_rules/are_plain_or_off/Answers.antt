use Rattle.std.proofs.Common.{rules, tests, sym, ◌∙◌, ◌||◌}
use Rattle.std.proofs.lemmas.Iterator.{YieldsList-from_slice}
use Rattle.std.proofs.lemmas.Iterator.Search.{all_from_yields_List}
use Rattle.std.proofs.lemmas.List.Folds.{list_all-map}
use Rattle.rule_spec.specs.Rule.{Rule}
use Rattle.rule_spec.specs.State.{has_number}
use Rattle.generation.specs.Plain.{is_plain_rule}
use Rattle.generation.proofs.plain_rules.are_plain_or_off.Goals as goal

pub returns : goal.returns
returns g c =
    let test = λ (rule : Rule). is_plain_rule rule || has_number c.args.off.now rule.id in
    let lent = g.R.LendsRule.lent in
    all_from_yields_List (λ one. test (lent one)) _ _ _ c.all.ensures.ran (YieldsList-from_slice c.args.rules.now cc) (λ x b q k. search (rules, tests))
    ∙ sym (list_all-map test lent c.args.rules.now)
