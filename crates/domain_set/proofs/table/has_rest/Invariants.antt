use Rattle.std.proofs.Common.{◌≡◌, length}
use denote.Text.{Utf8}
use denote.Shadow.{shadow}
use Rattle.domain_set.specs.Rests.{some_rest}
use Rattle.domain_set.specs.Table.{has_text}
use Rattle.domain_set.proofs.table.has_rest.Given as goal

abbrev pub invariant-loop-behind : goal.invariant-loop-behind
invariant-loop-behind l = record {
  same : some_rest (has_text l.entries) l.host ≡ some_rest (has_text l.entries) l.rest;
  text : shadow (Utf8 l.rest);
}

abbrev pub decreases-loop-behind : goal.decreases-loop-behind
decreases-loop-behind l = length l.rest
