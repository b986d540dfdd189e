use Rattle.std.proofs.Common.{◌≡◌, ◌∷◌, [], Some, refl, sym, ap, ◌∙◌, subst, All}
use Rattle.session_rounds.specs.Lines.{read_seen}
use Rattle.session_seats.specs.Seats.{Answers, DeskSeen, HasAnswered}
use Rattle.session_seats.specs.Told.{SaysMore}
use Rattle.session_seats.proofs.Desks.{kept_on, more_kept}
use Rattle.session_seats.proofs.Served.{asks_there, idles, later_as, later_of, no_copy_at, no_copy_of, served_idle, served_in_part, served_more, served_without, works}
use Rattle.session_seats.proofs.desk.Desk.answer.Goals as goal

pub returns-then-not-at_work-clause-answers : goal.returns-then-not-at_work-clause-answers
returns-then-not-at_work-clause-answers g c = c.requires.so_far

pub returns-then-not-at_work-clause-served : goal.returns-then-not-at_work-clause-served
returns-then-not-at_work-clause-served g c =
    served_idle c.args.round.now.reads c.args.place c.args.self.now (asks_there c.args.round.now.reads c.args.place c.args.line.now c.requires.there.0 c.requires.there.1 ∙ c.requires.asks)
    (idles c.args.self.now (sym c.is_at_work-at_work.ensures ∙ c.if-not-at_work.true))

pub returns-in_default-clause-answers : goal.returns-in_default-clause-answers
returns-in_default-clause-answers g c = subst (λ (desk : DeskSeen). HasAnswered g.P.Pair.opening c.args.round.now.reads desk) (sym c.self.view_is) c.requires.so_far

pub returns-in_default-clause-served : goal.returns-in_default-clause-served
returns-in_default-clause-served g c =
    let was = c.self.view_is in
    let work = works c.args.self.now (sym c.is_at_work-at_work.ensures ∙ c.if-not-at_work.false) in
    served_without c.args.round.now.reads c.args.place c.args.self.now _
    (asks_there c.args.round.now.reads c.args.place c.args.line.now c.requires.there.0 c.requires.there.1 ∙ c.requires.asks)
    (record { seat = ap (λ (d : DeskSeen). d.seat) was; seats = ap (λ (d : DeskSeen). d.seats) was })
    (later_as c.args.self.now.pass c.self.inside.pass (ap (λ (d : DeskSeen). d.pass) was))
    (no_copy_at c.args.self.now.pass c.self.inside.pass (sym (ap (λ (d : DeskSeen). d.pass) was) ∙ c.in_default.is)) refl work.going (ap (λ (d : DeskSeen). d.unasked) was)

pub returns-in-Ok-true-clause-answers : goal.returns-in-Ok-true-clause-answers
returns-in-Ok-true-clause-answers g c =
    let more : SaysMore g.P.Pair.opening c.args.place c.args.line.now.number (read_seen c.args.line.now.read) c.answer_by.new.pass.seen c.self.inside.answers c.answer_by.new.answers =
    c.in-Ok-true.ensures.says c.in-Ok-true.field-0-test in
    more_kept g.P.Pair.opening c.args.round.now.reads c.args.place c.args.line.now c.answer_by.new.pass.seen c.self.inside.answers c.answer_by.new.answers c.requires.there.0 c.requires.there.1 more
    (kept_on g.P.Pair.opening c.args.round.now.reads c.self.inside.pass _ c.answer_by.new.pass c.self.inside.answers c.in-Some.is c.answer_by.ensures.later
    (subst (λ (desk : DeskSeen). HasAnswered g.P.Pair.opening c.args.round.now.reads desk) (sym c.self.view_is) c.requires.so_far))

pub returns-in-Ok-true-clause-served : goal.returns-in-Ok-true-clause-served
returns-in-Ok-true-clause-served g c =
    let was = c.self.view_is in
    let work = works c.args.self.now (sym c.is_at_work-at_work.ensures ∙ c.if-not-at_work.false) in
    let more : SaysMore g.P.Pair.opening c.args.place c.args.line.now.number (read_seen c.args.line.now.read) c.answer_by.new.pass.seen c.self.inside.answers c.answer_by.new.answers =
    c.in-Ok-true.ensures.says c.in-Ok-true.field-0-test in
    served_more g.P.Pair.opening c.args.round.now.reads c.args.place c.args.line.now.number (read_seen c.args.line.now.read) c.answer_by.new.pass.seen c.args.self.now _
    (asks_there c.args.round.now.reads c.args.place c.args.line.now c.requires.there.0 c.requires.there.1 ∙ c.requires.asks)
    (subst (λ (desk : DeskSeen). SaysMore g.P.Pair.opening c.args.place c.args.line.now.number (read_seen c.args.line.now.read) c.answer_by.new.pass.seen desk.answers c.answer_by.new.answers) was more)
    (record { seat = ap (λ (d : DeskSeen). d.seat) was; seats = ap (λ (d : DeskSeen). d.seats) was })
    (later_of c.args.self.now.pass c.self.inside.pass (Some c.answer_by.new.pass) _ c.answer_by.new.pass (ap (λ (d : DeskSeen). d.pass) was) c.in-Some.is refl c.answer_by.ensures.missed)
    (ap (λ (d : DeskSeen). d.ready) was) work.going (ap (λ (d : DeskSeen). d.unasked) was)

pub returns-in-Ok-false-clause-answers : goal.returns-in-Ok-false-clause-answers
returns-in-Ok-false-clause-answers g c =
    let same : c.answer_by.new.answers ≡ c.self.inside.answers = c.in-Ok-false.ensures.none c.in-Ok-false.field-0-test in
    subst (All (Answers g.P.Pair.opening c.args.round.now.reads c.answer_by.new.pass.seen)) (sym same)
    (kept_on g.P.Pair.opening c.args.round.now.reads c.self.inside.pass _ c.answer_by.new.pass c.self.inside.answers c.in-Some.is c.answer_by.ensures.later
    (subst (λ (desk : DeskSeen). HasAnswered g.P.Pair.opening c.args.round.now.reads desk) (sym c.self.view_is) c.requires.so_far))

pub returns-in-Ok-false-clause-served : goal.returns-in-Ok-false-clause-served
returns-in-Ok-false-clause-served g c =
    let was = c.self.view_is in
    let work = works c.args.self.now (sym c.is_at_work-at_work.ensures ∙ c.if-not-at_work.false) in
    served_without c.args.round.now.reads c.args.place c.args.self.now _
    (asks_there c.args.round.now.reads c.args.place c.args.line.now c.requires.there.0 c.requires.there.1 ∙ c.requires.asks)
    (record { seat = ap (λ (d : DeskSeen). d.seat) was; seats = ap (λ (d : DeskSeen). d.seats) was })
    (later_of c.args.self.now.pass c.self.inside.pass (Some c.answer_by.new.pass) _ c.answer_by.new.pass (ap (λ (d : DeskSeen). d.pass) was) c.in-Some.is refl c.answer_by.ensures.missed)
    (no_copy_of c.args.self.now.pass c.self.inside.pass (Some c.answer_by.new.pass) _ c.answer_by.new.pass (ap (λ (d : DeskSeen). d.pass) was) c.in-Some.is refl
    (c.in-Ok-false.ensures.cause c.in-Ok-false.field-0-test)) refl work.going (ap (λ (d : DeskSeen). d.unasked) was)

pub returns-in-Err-clause-answers : goal.returns-in-Err-clause-answers
returns-in-Err-clause-answers g c =
    let same : c.answer_by.new.answers ≡ c.self.inside.answers = c.in-Err.ensures.kept in
    subst (All (Answers g.P.Pair.opening c.args.round.now.reads c.answer_by.new.pass.seen)) (sym same)
    (kept_on g.P.Pair.opening c.args.round.now.reads c.self.inside.pass _ c.answer_by.new.pass c.self.inside.answers c.in-Some.is c.answer_by.ensures.later
    (subst (λ (desk : DeskSeen). HasAnswered g.P.Pair.opening c.args.round.now.reads desk) (sym c.self.view_is) c.requires.so_far))

pub returns-in-Err-clause-served : goal.returns-in-Err-clause-served
returns-in-Err-clause-served g c =
    let was = c.self.view_is in
    served_in_part c.args.round.now.reads (c.args.place ∷ []) c.args.self.now _ (record { seat = ap (λ (d : DeskSeen). d.seat) was; seats = ap (λ (d : DeskSeen). d.seats) was })
    (later_of c.args.self.now.pass c.self.inside.pass (Some c.answer_by.new.pass) _ c.answer_by.new.pass (ap (λ (d : DeskSeen). d.pass) was) c.in-Some.is refl c.answer_by.ensures.missed)
    (ap (λ (d : DeskSeen). d.ready) was) refl
