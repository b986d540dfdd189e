use Rattle.std.proofs.Common.{◌≡◌, length}
use denote.Text.{Utf8}
use denote.Shadow.{shadow}
use Rattle.rule_prune.specs.Filters as spec
use Rattle.rule_prune.proofs.outdone.Search.behind_dots.Given as goal

abbrev pub invariant-loop-behind : goal.invariant-loop-behind
invariant-loop-behind l = record {
  same : spec.nearest (spec.keeps l.self.rules.now l.self.gone.now l.self.place) l.fn.so_far (spec.behind_dots l.table l.text)
      ≡ spec.nearest (spec.keeps l.self.rules.now l.self.gone.now l.self.place) l.best (spec.behind_dots l.table l.rest);
  text : shadow (Utf8 l.rest);
}

abbrev pub decreases-loop-behind : goal.decreases-loop-behind
decreases-loop-behind l = length l.rest
