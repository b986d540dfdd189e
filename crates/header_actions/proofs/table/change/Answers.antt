use Rattle.std.proofs.Common.{arith, ◌≡◌, ℕ, List, ◌∙◌, ap}
use Rattle.std.proofs.lemmas.Grind.{common_steps}
use Rattle.std.proofs.lemmas.Map.Text.{btree_map_updates_str}
use Rattle.std.specs.Option.{option_copied}
use Rattle.std.specs.Ordering.{nat_cmp}
use Rattle.std.specs.Cmp.Lexicographic.{slice_cmp}
use Rattle.std.specs.BTreeMap.{get_by}
use Rattle.header_actions.specs.Table.{Table, changed_values, texts_of, values_under}
use Rattle.header_actions.proofs.Changed.{put_again}
use Rattle.header_actions.proofs.table.change.Goals as goal
use Rattle.header_actions.proofs.table.change.Goals.{in-Some, in-None}

pub returns : goal.returns
returns c =
    let found = λ (table : Table) (q : List ℕ). get_by (λ k. slice_cmp nat_cmp q k.now) table in
    let old = c.args.table.now in
    let name = c.args.name.now in
    let before : texts_of c.match-remove.values ≡ values_under old name =
    elim c.match-remove.branch [ in-Some w ↦ grind (arith, common_steps) | in-None w ↦ grind (arith, common_steps) ] in
    put_again (found old) (found c.remove.new.self) (found c.insert.new.self) name c.change_values.new.values (changed_values c.args.operation (values_under old name) (option_copied c.args.value))
    (btree_map_updates_str name old c.remove.new.self _ c.remove.ensures.updates)
    (btree_map_updates_str name c.remove.new.self c.insert.new.self _ c.in_ok-insert.ensures.updates)
    (c.in_ok-change_values.ensures ∙ ap (λ l. changed_values c.args.operation l (option_copied c.args.value)) before)
