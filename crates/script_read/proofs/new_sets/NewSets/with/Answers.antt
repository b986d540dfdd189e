use Rattle.std.proofs.Common.{◌≡◌, ◌∙◌, sym, ap, subst, cond, true, List, ℕ}
use Rattle.std.specs.Prelude.{string_bytes}
use Rattle.std.specs.Str.{bytes_eq}
use Rattle.std.specs.BTreeSet.{contains_text}
use Rattle.std.proofs.lemmas.Map.Text.{btree_set_updates_text}
use Rattle.update_spec.specs.Update.{NewRuleSet}
use Rattle.script_read.specs.Sets.{HasIdsOf}
use Rattle.script_read.proofs.SetIds.{takes_more}
use Rattle.script_read.proofs.new_sets.NewSets.with.Goals as goal

pub invariant_of-self : goal.invariant_of-self
invariant_of-self c =
    let old = c.self.inside.ids in
    let new = c.insert.new.self in
    let sets = c.self.inside.sets.items in
    let bytes = string_bytes c.in_ok-id.id in
    let same : bytes ≡ c.args.set.id = c.in_ok-id.ensures.ok ∙ c.id.ensures in
    subst (λ (list : List NewRuleSet). HasIdsOf new list) (sym c.in_ok-push.ensures.items)
    (takes_more old new sets c.args.set c.self.invariant
    (λ other. btree_set_updates_text bytes old new true c.in_ok-insert.ensures.updates other ∙ ap (λ (d : List ℕ). cond (bytes_eq d other) true (contains_text old other)) same))
