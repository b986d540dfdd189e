use Rattle.std.proofs.Common.{◌≡◌, ◌∙◌, ◌++◌, ◌∷◌, [], ℕ, ◌-◌, List, Bool, length, ap, arith, string_bytes, length-append}
use Rattle.session_spec.specs.Said.{answer_line}
use Rattle.session_seats.specs.declared.answer_log.Mark.{Mark}
use Rattle.session_seats.specs.Said.{Said}
use Rattle.session_seats.specs.Told.{answer_of, number_of, said_of}
use Rattle.session_seats.proofs.Log.{said_pushed}
use Rattle.session_seats.proofs.answer_log.AnswerLog.push.Goals as goal

pub returns-clause-more : goal.returns-clause-more
returns-clause-more c =
    let text : List ℕ = string_bytes c.self.inside.text in
    let whole : List ℕ = string_bytes c.write.new.into in
    let more : List ℕ = answer_line c.args.line (number_of c.args.told.now) (answer_of c.args.told.now) in
    let mark : Mark = record { place = c.args.place; number = c.number.result; failed = c.failed.result; start = c.len-start.result; len = c.len.result - c.len-start.result } in
    let said : Said = said_of c.args.place c.args.line c.args.told.now in
    let longer : whole ≡ text ++ more = c.in_ok-write.ensures.appended in
    let grown : c.push_reserved.new.self.items ≡ c.self.inside.marks.items ++ mark ∷ [] = c.push_reserved.ensures.items ∙ ap (λ (ms : List Mark). ms ++ mark ∷ []) c.in_ok-reserve.ensures.items in
    let start : c.len-start.result ≡ length text = omega (arith, c.len-start.ensures, c.self.inside.text.bytes.ok.0) in
    let len : c.len.result - c.len-start.result ≡ length more = omega (arith, c.len.ensures, c.write.new.into.bytes.ok.0, start, ap length longer, length-append text more) in
    let same : record { place = c.args.place; number = c.number.result; failed = c.failed.result; text = more } ≡ said =
    ap (λ (n : ℕ). record { place = c.args.place; number = n; failed = c.failed.result; text = more }) c.number.ensures
    ∙ ap (λ (b : Bool). record { place = c.args.place; number = number_of c.args.told.now; failed = b; text = more }) c.failed.ensures in
    said_pushed text more whole c.self.inside.marks.items c.push_reserved.new.self.items mark said c.self.invariant longer grown start len same
    ∙ ap (λ (before : List Said). before ++ said ∷ []) c.self.view_is
