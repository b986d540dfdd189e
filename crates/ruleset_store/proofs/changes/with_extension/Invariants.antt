use Rattle.std.proofs.Common.{◌≡◌, ◌++◌, drop}
use Rattle.update_spec.specs.Update.{with_first, has_name}
use Rattle.ruleset_store.specs.Installed.{first_left}
use Rattle.ruleset_store.proofs.changes.with_extension.Given as goal

abbrev pub invariant-loop-other : goal.invariant-loop-other
invariant-loop-other l =
    l.next.items ++ first_left (has_name l.name) l.left (drop l.other-index l.extensions) ≡ with_first (has_name l.name) (λ _. l.fn.extension) l.extensions
