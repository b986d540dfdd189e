use Rattle.std.proofs.Common.{arith, ◌≡◌, ℕ, List, ◌++◌, ◌∷◌, [], ◌∙◌, ap}
use Rattle.std.proofs.lemmas.Grind.{common_steps}
use Rattle.std.proofs.lemmas.Map.Text.{btree_map_updates_str}
use Rattle.std.specs.Ordering.{nat_cmp}
use Rattle.std.specs.Cmp.Lexicographic.{slice_cmp}
use Rattle.std.specs.BTreeMap.{get_by}
use Rattle.rule_prune.specs.Filters.{Table, places_under}
use Rattle.rule_prune.proofs.Tables.{put_again}
use Rattle.rule_prune.proofs.filters.add.Goals as goal
use Rattle.rule_prune.proofs.filters.add.Goals.{in-Some, in-None}

pub returns : goal.returns
returns c =
    let found = λ (table : Table) (q : List ℕ). get_by (λ k. slice_cmp nat_cmp q k.now) table in
    let old = c.args.table.now in
    let text = c.args.text.now in
    let before : c.match-remove.places.items ≡ places_under old text =
    elim c.match-remove.branch [ in-Some w ↦ grind (arith, common_steps) | in-None w ↦ grind (arith, common_steps) ] in
    put_again (found old) (found c.remove.new.self) (found c.insert.new.self) text c.push.new.self (places_under old text ++ c.args.place ∷ [])
    (btree_map_updates_str text old c.remove.new.self _ c.remove.ensures.updates)
    (btree_map_updates_str text c.remove.new.self c.insert.new.self _ c.in_ok-insert.ensures.updates)
    (c.in_ok-push.ensures.items ∙ ap (λ l. l ++ c.args.place ∷ []) before)
