use Rattle.std.proofs.Common.{◌<◌, ◌++◌, length, sym, ap, ◌∙◌, subst, arith}
use Rattle.std.proofs.lemmas.Slice.{between_to_end}
use Rattle.rule_segments.specs.Segments.{live_among, live_in, IsAboveFrom}
use Rattle.rule_segments.proofs.Tapered.{tapers_more, tapers_skip}
use Rattle.rule_segments.proofs.joining.tapered_before.Goals as goal

pub loop-last-preserved-then-len-eq0 : goal.loop-last-preserved-then-len-eq0
loop-last-preserved-then-len-eq0 c =
    tapers_skip (live_among c.args.segments.now ++ live_among c.args.behind.items) c.loop-last.left.now c.loop-last.next.items c.in-Some.older.now c.in-Some.last.now c.in-Some.ensures.cases.0
    (sym c.len.ensures ∙ c.if-len-eq0.true) c.loop-last.invariant

pub loop-last-preserved : goal.loop-last-preserved
loop-last-preserved c =
    let some : 0 < length (live_in c.in-Some.last.now) = (let e = c.len.ensures in let f = c.if-len-eq0.false in omega arith) in
    let live = c.in_ok-joined.ensures.live ∙ ap live_among (between_to_end c.loop-last.left.now c.in_ok-start.start (length c.loop-last.left.now) (omega arith)) in
    let apart = subst (IsAboveFrom c.in-Some.older.now c.in_ok-start.start) c.len-else-len-eq0.ensures c.in_ok-start.ensures.apart in
    rw c.in_ok-insert.ensures.items
    (tapers_more (live_among c.args.segments.now ++ live_among c.args.behind.items) c.loop-last.left.now c.loop-last.next.items c.in-Some.older.now c.in-Some.last.now c.in_ok-joined.field-0 c.in_ok-start.start
    c.in-Some.ensures.cases.0 some c.in_ok-start.ensures.within live c.in_ok-joined.ensures.half apart c.loop-last.invariant)
