use Rattle.std.proofs.Common.{◌≡◌, ◌++◌, take, map, string_bytes}
use Rattle.session_spec.specs.Output.{behind_commas}
use Rattle.explain_report.proofs.written.push_more.Given as goal

abbrev pub invariant-loop-item : goal.invariant-loop-item
invariant-loop-item g l = string_bytes l.into ≡ string_bytes l.fn.into ++ behind_commas (map g.T.Written.text (take l.item-index l.items))
