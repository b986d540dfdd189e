use Rattle.std.proofs.Common.{◌≡◌, ◌++◌, drop}
use Rattle.update_spec.specs.Update.{with_first, has_set_id}
use Rattle.ruleset_store.specs.Installed.{first_left}
use Rattle.ruleset_store.proofs.installed.with_set.Given as goal

abbrev pub invariant-loop-other : goal.invariant-loop-other
invariant-loop-other l =
    l.next.items ++ first_left (has_set_id l.id) l.left (drop l.other-index l.sets) ≡ with_first (has_set_id l.id) (λ _. l.fn.set) l.sets
