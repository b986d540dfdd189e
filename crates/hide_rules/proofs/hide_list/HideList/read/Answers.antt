use Rattle.std.proofs.Common.{List, map, subst}
use Rattle.hide_rules.specs.declared.line.HidingLine.{HidingLine}
use Rattle.hide_rules.specs.Index.{Indexes}
use Rattle.hide_rules.specs.Seen.{hiding_seen}
use Rattle.hide_rules.proofs.hide_list.HideList.read.Goals as goal

pub invariant_of-list : goal.invariant_of-list
invariant_of-list c = subst (λ (lines : List HidingLine). Indexes (map hiding_seen lines) c.in_ok-index.index) c.as_slice.ensures.value c.in_ok-index.ensures
