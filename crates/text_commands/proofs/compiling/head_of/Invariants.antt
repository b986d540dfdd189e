use Rattle.std.proofs.Common.{◌≡◌, take, string_bytes}
use Rattle.session_spec.specs.Refusals.{unsupported_lines}
use Rattle.text_commands.proofs.compiling.head_of.Given as goal

abbrev pub invariant-loop-one : goal.invariant-loop-one
invariant-loop-one l = string_bytes l.head ≡ unsupported_lines (take l.one-index l.reported)
