use Rattle.std.proofs.Common.{drop}
use Rattle.published.specs.Ahead.{IsOneAhead, coming}
use Rattle.published.proofs.Next.{left_fit}
use Rattle.published.proofs.writer.Writer.swap.Goals as goal

pub invariant_of-self : goal.invariant_of-self
invariant_of-self g c = rw (c.in_err-hand_on.ensures.shown, c.in_err-hand_on.ensures.coming) c.self.invariant

pub publish_in-requires-clause-next : goal.publish_in-requires-clause-next
publish_in-requires-clause-next g c =
    let e = c.in_ok-hand_on.ensures in
    let all : IsOneAhead c.hand_on.new.copies.desk.shown.value (coming c.hand_on.new.kept (drop c.hand_on.new.copies.behind c.hand_on.new.copies.log.items)) = rw (e.shown, e.coming) c.self.invariant.2 in
    rw e.ok at all

pub invariant_of-self-2 : goal.invariant_of-self-2
invariant_of-self-2 g c =
    let e = c.in_ok-hand_on.ensures in
    let all : IsOneAhead c.hand_on.new.copies.desk.shown.value (coming c.hand_on.new.kept (drop c.hand_on.new.copies.behind c.hand_on.new.copies.log.items)) = rw (e.shown, e.coming) c.self.invariant.2 in
    let left = left_fit _ _ c.hand_on.new.copies.desk.shown.value c.publish_in.new.copies.desk.shown.value c.hand_on.new.kept (drop c.hand_on.new.copies.behind c.hand_on.new.copies.log.items) (drop c.publish_in.new.copies.behind c.publish_in.new.copies.log.items) c.publish_in.result e.ok (rw e.shown c.self.invariant.1) (rw e.ok at all) c.publish_in.ensures.ok c.publish_in.ensures.err in
    (c.self.invariant.0, left.0, left.1)
