use Rattle.std.proofs.Common.{string_bytes, sym, ◌∙◌, subst, arith}
use Rattle.session_seats.proofs.Offices.{nothing_said, line_said, all_said}
use Rattle.session_seats.specs.Reading.{IsTaken}
use Rattle.session_seats.proofs.office.Office.write_all.Goals as goal

pub loop-line-init : goal.loop-line-init
loop-line-init g c = record {
  so_far = nothing_said g.P.Pair.opening c.args.lines.now c.args.self.now.list c.args.self.now.texts c.requires.texts;
  idle = c.requires.idle;
}

pub say_to-requires-clause-line : goal.say_to-requires-clause-line
say_to-requires-clause-line g c = subst IsTaken (sym c.line-item.is) (c.requires.lines c.loop-line.line-index c.line-item.result (omega arith))

pub loop-line-preserved : goal.loop-line-preserved
loop-line-preserved g c = record {
  so_far = line_said g.P.Pair.opening c.args.lines.now c.args.self.now.list c.loop-line.line-index c.line-item.result
      c.loop-line.self.list c.say_to.new.self.list c.keep.new.self.list c.loop-line.self.texts c.say_to.new.self.texts c.keep.new.self.texts (string_bytes c.in_ok-text.text)
      (omega arith) c.line-item.is c.in_ok-text.ensures.said c.in_ok-keep.ensures.list c.in_ok-text.ensures.texts c.in_ok-keep.ensures.texts c.loop-line.invariant.so_far;
  idle = c.in_ok-keep.ensures.staged ∙ c.in_ok-text.ensures.idle;
}

pub returns : goal.returns
returns g c = record {
  says = all_said g.P.Pair.opening c.args.lines.now c.args.self.now.list c.loop-line.line-index c.loop-line.self.list c.loop-line.self.texts (omega arith) c.loop-line.invariant.so_far;
  idle = c.loop-line.invariant.idle;
}
