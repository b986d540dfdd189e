use Rattle.std.proofs.Common.{rules, ◌≡◌, ◌++◌, ◌∷◌, [], length, List, sym, ◌∙◌, ap}
use Rattle.std.specs.Prelude.{nat_eq}
use Rattle.std.specs.HashMap.{get}
use Rattle.rule_spec.specs.Rule.{Rule}
use Rattle.update_spec.specs.Judge.{has_id}
use Rattle.rule_ids.specs.Counted.{sum_of}
use Rattle.live_rules.proofs.Found.{not_found, updates_at, none_of_id, added_live, added_is}
use Rattle.live_rules.proofs.live.LiveRules.add.Goals as goal

pub invariant_of-self-2 : goal.invariant_of-self-2
invariant_of-self-2 c =
    let slots = c.self.inside.slots.items in
    let places = c.self.inside.places in
    let rule = c.args.rule.now in
    let new_one = ap (get nat_eq places) (sym (c.id-id.ensures ∙ ap (λ (r : Rule). r.id) c.rule.ensures)) ∙ not_found (get nat_eq places c.id-id.result) (sym c.contains_key.ensures ∙ c.if-contains_key.false) in
    let end_is : c.len.result ≡ length slots = search rules in
    let updates = updates_at places c.insert.new.self c.id-id.result c.len.result rule.id (length slots) (c.id-id.ensures ∙ ap (λ (r : Rule). r.id) c.rule.ensures) end_is c.in_ok-insert.ensures.updates in
    added_live slots places c.self.inside.counts c.self.invariant rule new_one c.insert.new.self updates c.push.new.self.items c.in_ok-slot.slot c.in_ok-counts.counts
    c.in_ok-push.ensures.items c.in_ok-slot.ensures (c.in_ok-counts.ensures ∙ ap (sum_of c.self.inside.counts) c.counts.ensures)

pub returns-clause-rules : goal.returns-clause-rules
returns-clause-rules c = λ yes.
    added_is c.self.inside.slots.items c.push.new.self.items c.in_ok-slot.slot c.args.rule.now c.in_ok-push.ensures.items c.in_ok-slot.ensures
    ∙ ap (λ (rules : List Rule). rules ++ c.args.rule.now ∷ []) c.self.view_is

pub returns-clause-other : goal.returns-clause-other
returns-clause-other c = λ yes.
    let slots = c.self.inside.slots.items in
    let places = c.self.inside.places in
    let rule = c.args.rule.now in
    let new_one = ap (get nat_eq places) (sym (c.id-id.ensures ∙ ap (λ (r : Rule). r.id) c.rule.ensures)) ∙ not_found (get nat_eq places c.id-id.result) (sym c.contains_key.ensures ∙ c.if-contains_key.false) in
    ap (λ (rules : List Rule). has_id rules rule.id) (sym c.self.view_is) ∙ none_of_id slots places c.self.inside.counts c.self.invariant rule new_one
