use Rattle.std.proofs.Common.{◌≡◌, ◌∙◌, ◌<◌, length, take, drop, get_or, ap, sym, subst, arith, string_bytes, List}
use Rattle.std.proofs.lemmas.Bool.{ltb-true}
use Rattle.std.proofs.lemmas.List.{length-map}
use Rattle.session_seats.specs.declared.answer_log.Mark.{Mark}
use Rattle.session_seats.specs.Log.{said_in}
use Rattle.session_seats.proofs.Log.{said_there}
use Rattle.session_seats.proofs.answer_log.AnswerLog.get.Goals as goal

pub returns : goal.returns
returns c =
    let marks : List Mark = c.self.inside.marks.items in
    let text = string_bytes c.self.inside.text in
    let mark : Mark = c.in_ok-mark.mark.now in
    let here : c.args.turn < length marks = subst (λ (ms : List Mark). c.args.turn < length ms) c.deref.ensures.value (ltb-true c.args.turn _ (sym c.in_ok-mark.ensures.lookup.0)) in
    let is : mark ≡ get_or marks c.args.turn mark = c.in_ok-mark.ensures.lookup.1 ∙ ap (λ (ms : List Mark). get_or ms c.args.turn mark) c.deref.ensures.value in
    let part : c.in_ok-text.text.now ≡ take mark.len (drop mark.start text) =
    c.in_ok-text.ensures.front ∙ ap (take mark.len) (c.in_ok-behind.ensures.back ∙ ap (drop mark.start) c.deref-2.ensures) in
    rw (← c.self.view_is) ((c.args.turn, omega (arith, here, length-map marks (said_in text)), said_there text marks c.args.turn mark _ c.in_ok-text.text.now here is part))
