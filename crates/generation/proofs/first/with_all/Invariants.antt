use Rattle.std.proofs.Common.{◌≡◌, length}
use Rattle.std.specs.Vec.Iter.{into_iter_items, into_iter_len}
use Rattle.update_spec.specs.Entries.{empty, install_all}
use Rattle.generation.proofs.first.with_all.Given as goal

abbrev pub invariant-loop-extension : goal.invariant-loop-extension
invariant-loop-extension l =
    (install_all empty l.fn.extensions.items ≡ install_all l.store (into_iter_items l.extension-iterator))
    × (into_iter_len l.extension-iterator ≡ length (into_iter_items l.extension-iterator))
