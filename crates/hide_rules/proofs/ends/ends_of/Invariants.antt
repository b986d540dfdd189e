use Rattle.std.proofs.Common.{◌≡◌, ◌++◌, length}
use denote.Text.{Utf8}
use denote.Shadow.{shadow}
use Rattle.hide_rules.specs.Ends.{ends_of, ends_behind}
use Rattle.hide_rules.specs.Texts.{texts_of}
use Rattle.hide_rules.proofs.ends.ends_of.Given as goal

abbrev pub invariant-loop-behind : goal.invariant-loop-behind
invariant-loop-behind l = record {
  ends : texts_of l.ends.items ++ ends_behind l.rest ≡ ends_of l.host;
  text : shadow (Utf8 l.rest);
}

abbrev pub decreases-loop-behind : goal.decreases-loop-behind
decreases-loop-behind l = length l.rest
