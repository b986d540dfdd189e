use Rattle.std.proofs.Common.{◌≡◌, take, string_bytes}
use Rattle.session_spec.specs.Pruning.{removed_lines}
use Rattle.text_commands.proofs.pruning.head_of.Given as goal

abbrev pub invariant-loop-one : goal.invariant-loop-one
invariant-loop-one l = string_bytes l.head ≡ removed_lines (take l.one-index l.removals)
