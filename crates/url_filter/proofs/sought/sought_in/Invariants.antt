use Rattle.std.proofs.Common.{IfSome}
use Rattle.url_filter.specs.Sought.{IsSought}
use Rattle.url_filter.specs.Stops.{HasNoStar}
use Rattle.url_filter.proofs.sought.sought_in.Given as goal

abbrev pub invariant-loop-i : goal.invariant-loop-i
invariant-loop-i l = record {
  plain : HasNoStar l.pattern l.i;
  sought : IfSome l.sought (IsSought l.pattern);
}
