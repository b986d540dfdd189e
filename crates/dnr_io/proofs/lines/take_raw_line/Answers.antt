use Rattle.std.proofs.Common.{◌<◌, length, arith, rules, ap}
use Rattle.std.specs.Io.KnownBytes.{Consumes, prepend_known}
use Rattle.dnr_io.proofs.Pieces.{ended, last, overflows, stopped_within}
use Rattle.dnr_io.proofs.lines.take_raw_line.Goals as goal

pub returns-in_err-move_to-clause-too_long : goal.returns-in_err-move_to-clause-too_long
returns-in_err-move_to-clause-too_long g c =
    let was = c.loop-ahead.invariant in
    let looked = c.in_ok-look.ensures in
    let taken : Consumes (prepend_known c.args.ahead.now (g.S.Source.left c.args.source.now)) (prepend_known c.look.new.self (g.S.Source.left c.look.new.source)) c.loop-ahead.line.items = rw looked.bytes was.taken in
    λ is. overflows _ c.look.new.self c.loop-ahead.line.items _ taken was.plain (c.in_err-move_to.ensures.too_long (search rules))

pub returns-clause-raw : goal.returns-clause-raw
returns-clause-raw g c =
    let was = c.loop-ahead.invariant in
    let looked = c.in_ok-look.ensures in
    let taken : Consumes (prepend_known c.args.ahead.now (g.S.Source.left c.args.source.now)) (prepend_known c.look.new.self (g.S.Source.left c.look.new.source)) c.loop-ahead.line.items = rw looked.bytes was.taken in
    let end = looked.end c.if-branch.false in
    let some : 0 < length c.loop-ahead.line.items = omega (arith, ap length end.0, was.some) in
    last _ _ c.look.new.self c.loop-ahead.line.items taken end.1 end.2 was.plain some

pub returns-then-branch-2-clause-raw : goal.returns-then-branch-2-clause-raw
returns-then-branch-2-clause-raw g c =
    let was = c.loop-ahead.invariant in
    let looked = c.in_ok-look.ensures in
    let taken : Consumes (prepend_known c.args.ahead.now (g.S.Source.left c.args.source.now)) (prepend_known c.look.new.self (g.S.Source.left c.look.new.source)) c.loop-ahead.line.items = rw looked.bytes was.taken in
    let moved = c.in_ok-move_to.ensures in
    ended _ c.look.new.self c.move_to.new.self c.loop-ahead.line.items c.move_to.new.line.items _ c.in_ok-move_to.field-0 c.if-branch-2.true taken was.plain moved.moved

pub returns-in_err-look-clause-stopped : goal.returns-in_err-look-clause-stopped
returns-in_err-look-clause-stopped g c =
    let was = c.loop-ahead.invariant in
    let looked = c.in_err-look.ensures in
    let taken : Consumes (prepend_known c.args.ahead.now (g.S.Source.left c.args.source.now)) (prepend_known c.look.new.self (g.S.Source.left c.look.new.source)) c.loop-ahead.line.items = rw looked.bytes was.taken in
    λ is. stopped_within _ (g.S.Source.left c.look.new.source) c.look.new.self c.loop-ahead.line.items looked.stopped taken was.plain
