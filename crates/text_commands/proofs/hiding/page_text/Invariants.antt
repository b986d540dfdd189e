use Rattle.std.proofs.Common.{◌≡◌, take, string_bytes}
use Rattle.session_spec.specs.Hiding.{unhidden_lines}
use Rattle.text_commands.proofs.hiding.page_text.Given as goal

abbrev pub invariant-loop-one : goal.invariant-loop-one
invariant-loop-one l = string_bytes l.text ≡ unhidden_lines (take l.one-index l.reported)
