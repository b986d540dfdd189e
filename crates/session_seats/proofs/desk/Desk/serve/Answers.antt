use Rattle.std.proofs.Common.{◌≤◌, ◌<◌, ◌∙◌, length, refl, sym, ap, subst, arith}
use Rattle.std.proofs.lemmas.List.{length-map}
use Rattle.line_spec.specs.Line.{command_of}
use Rattle.lines_ahead.specs.Cut.{IsPlainLine}
use Rattle.session_rounds.specs.Lines.{is_asked, is_asking}
use Rattle.session_seats.specs.Reading.{IsTaken, seen_line}
use Rattle.session_seats.specs.declared.round_line.RoundLine.{RoundLine}
use Rattle.session_seats.proofs.Desks.{passed_on, read_on, seen_there, taken_at}
use Rattle.session_seats.proofs.Readings.{plain_asks}
use Rattle.session_seats.proofs.Served.{asks_nowhere, asks_there, served_over, served_unasked}
use Rattle.session_seats.proofs.desk.Desk.serve.Goals as goal

pub returns-then-place-lines-clause-answers : goal.returns-then-place-lines-clause-answers
returns-then-place-lines-clause-answers g c = passed_on g.P.Pair.opening c.args.round.now.reads c.args.place c.args.self.now c.pass_over.new.self c.pass_over.ensures c.requires

pub returns-then-place-lines-clause-served : goal.returns-then-place-lines-clause-served
returns-then-place-lines-clause-served g c =
    let beyond : length c.args.round.now.reads ≤ c.args.place =
    omega (arith, c.if-place-lines.true, ap length c.lines-lines.ensures.value, ap length c.lines-lines.ensures.reads, length-map c.args.round.now.lines seen_line) in
    served_unasked c.args.round.now.reads c.args.place c.args.self.now c.pass_over.new.self (asks_nowhere c.args.round.now.reads c.args.place beyond) c.pass_over.ensures

pub returns-else-asks-clause-answers : goal.returns-else-asks-clause-answers
returns-else-asks-clause-answers g c = passed_on g.P.Pair.opening c.args.round.now.reads c.args.place c.args.self.now c.pass_over-else-asks.new.self c.pass_over-else-asks.ensures c.requires

pub returns-else-asks-clause-served : goal.returns-else-asks-clause-served
returns-else-asks-clause-served g c =
    let inside : c.args.place < length c.lines-lines.result.now = omega (arith, c.if-place-lines.false) in
    let at = seen_there c.args.round.now c.lines-lines.result.now c.args.place c.index-lines-place.result c.lines-lines.ensures.value c.lines-lines.ensures.reads inside c.index-lines-place.is in
    served_unasked c.args.round.now.reads c.args.place c.args.self.now c.pass_over-else-asks.new.self
    (asks_there c.args.round.now.reads c.args.place (seen_line c.index-lines-place.result) at.0 at.1 ∙ ap (λ (l : RoundLine). is_asking (seen_line l)) c.in-Read.is
    ∙ ap is_asking (sym c.deref.ensures) ∙ sym c.asks.ensures ∙ c.if-asks.false) c.pass_over-else-asks.ensures

pub returns-in_default-clause-answers : goal.returns-in_default-clause-answers
returns-in_default-clause-answers g c =
    passed_on g.P.Pair.opening c.args.round.now.reads c.args.place c.read.new.self c.pass_over-in_default.new.self c.pass_over-in_default.ensures
    (read_on g.P.Pair.opening c.args.round.now.reads (is_asked (command_of c.in-Plain.line.number c.in-Plain.line.bytes)) c.args.self.now c.read.new.self (c.in_default.ensures.none refl) c.requires)

pub returns-in_default-clause-served : goal.returns-in_default-clause-served
returns-in_default-clause-served g c =
    let inside : c.args.place < length c.lines-lines.result.now = omega (arith, c.if-place-lines.false) in
    let at = seen_there c.args.round.now c.lines-lines.result.now c.args.place c.index-lines-place.result c.lines-lines.ensures.value c.lines-lines.ensures.reads inside c.index-lines-place.is in
    let plain : IsPlainLine c.in-Plain.line =
    subst IsTaken c.in-Plain.is (taken_at c.lines-lines.result.now c.args.place c.index-lines-place.result (rw (← c.lines-lines.ensures.value) at c.lines-lines.ensures.taken) inside c.index-lines-place.is) in
    served_over c.args.round.now.reads c.args.place (is_asked (command_of c.in-Plain.line.number c.in-Plain.line.bytes)) c.args.self.now c.read.new.self c.pass_over-in_default.new.self
    (asks_there c.args.round.now.reads c.args.place (seen_line c.index-lines-place.result) at.0 at.1 ∙ ap (λ (l : RoundLine). is_asking (seen_line l)) c.in-Plain.is ∙ plain_asks c.in-Plain.line plain)
    (c.in_default.ensures.none refl) c.pass_over-in_default.ensures
