use Rattle.std.proofs.Common.{◌≡◌, length}
use denote.Text.{Utf8}
use denote.Shadow.{shadow}
use Rattle.std.specs.BTreeSet.{contains_text}
use Rattle.domain_set.specs.Rests.{some_rest}
use Rattle.abp_compile.proofs.domains.has_rest.Given as goal

abbrev pub invariant-loop-behind : goal.invariant-loop-behind
invariant-loop-behind l = record {
  same : some_rest (contains_text l.table) l.domain ≡ some_rest (contains_text l.table) l.rest;
  text : shadow (Utf8 l.rest);
}

abbrev pub decreases-loop-behind : goal.decreases-loop-behind
decreases-loop-behind l = length l.rest
