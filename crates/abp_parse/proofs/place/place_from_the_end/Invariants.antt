use Rattle.abp_parse.proofs.Places.{IsLeft}
use Rattle.abp_parse.proofs.place.place_from_the_end.Given as goal

abbrev pub invariant-loop-i : goal.invariant-loop-i
invariant-loop-i l = IsLeft l.text l.i l.rest l.place

abbrev pub decreases-loop-i : goal.decreases-loop-i
decreases-loop-i l = l.i
