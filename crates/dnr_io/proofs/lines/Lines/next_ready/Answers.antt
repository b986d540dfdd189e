use Rattle.std.proofs.Common.{◌≡◌, [], rules}
use Rattle.dnr_io.proofs.Pieces.{ended_whole, gives_whole}
use Rattle.dnr_io.proofs.lines.Lines.next_ready.Goals as goal

pub returns-clause-line : goal.returns-clause-line
returns-clause-line c =
    let is = c.if-not-move_whole.false in
    let none : c.clear.new.self.items ≡ [] = search rules in
    λ given left. rw (← c.self.view_is)
    (gives_whole c.self.inside.ahead c.move_whole.new.self c.clear.new.self.items c.move_whole.new.line.items c.drop_cr.new.line.items left none (c.move_whole.ensures.moved is) c.drop_cr.ensures (c.move_whole.ensures.short is))

pub returns-clause-lf : goal.returns-clause-lf
returns-clause-lf c =
    let none : c.clear.new.self.items ≡ [] = search rules in
    λ given left. rw (← c.self.view_is)
    (ended_whole c.self.inside.ahead c.move_whole.new.self c.clear.new.self.items c.move_whole.new.line.items left none (c.move_whole.ensures.moved c.if-not-move_whole.false))
