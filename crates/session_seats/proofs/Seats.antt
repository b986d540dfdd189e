-- Answers of a seat, as it sees more, and when the round has ended.
use Rattle.std.proofs.Common.{◌≡◌, ◌<◌, ℕ, zero, suc, List, [], ◌∷◌, length, get_or, Bool, Option, Some, None, refl, sym, ap, ◌∙◌, subst, arith, All}
use Rattle.std.specs.Prelude.{IsTrue, IsSome, IfSome}
use Rattle.std.specs.List.{Contains}
use Rattle.std.proofs.lemmas.List.Elements.{All-contains}
use mathlib.Core.List.{IsPrefix}
use Rattle.generation.specs.Basis.{Basis}
use Rattle.history.proofs.Beginnings.{shorter_begins}
use Rattle.published.proofs.Beginnings.{begins_on}
use Rattle.update_spec.specs.Entries.{Entry}
use Rattle.session_rounds.specs.Lines.{read_seen, IsAnswer}
use Rattle.session_rounds.specs.declared.read_line.ReadLine.{ReadLine}
use Rattle.session_seats.specs.Seats.{SaysAt, Answers, AllAnswer, DeskSeen, IsTrusted, SaysWithin, MaySay, seen_of}
use Rattle.session_seats.specs.Said.{Said}

-- the element at a place, whatever stands for one that is not there
pub same_at : {X : Type 0} (xs : List X) (i : ℕ) (d e : X) → i < length xs → get_or xs i d ≡ get_or xs i e
same_at [] i d e inside = absurd (omega (arith, inside))
same_at (x ∷ xs) zero d e inside = refl
same_at (x ∷ xs) (suc i) d e inside = same_at xs i d e (omega (arith, inside))

further : (opening : Basis) (reads : List ReadLine) (seen later : List Entry) (said : Said) → IsPrefix seen later → Answers opening reads seen said → Answers opening reads later said
further opening reads seen later said on answers = record {
  line = answers.line;
  inside = answers.inside;
  there = answers.there;
  says = record {
    list = answers.says.list;
    here = answers.says.here;
    begins = begins_on answers.says.list seen later answers.says.begins on;
    counted = answers.says.counted;
    answer = answers.says.answer;
  };
}

-- what was said stays an answer as the seat sees more
pub all_further : (opening : Basis) (reads : List ReadLine) (seen later : List Entry) (said : List Said) → IsPrefix seen later → All (Answers opening reads seen) said → All (Answers opening reads later) said
all_further opening reads seen later said on all = λ k d inside. further opening reads seen later (get_or said k d) on (all k d inside)

-- what is said at the place of a line answers it
pub answers_line : (opening : Basis) (reads : List ReadLine) (seen : List Entry) (place : ℕ) (line : ReadLine) (said : Said) → place < length reads → line ≡ get_or reads place line
    → SaysAt opening place line.number (read_seen line.read) seen said → Answers opening reads seen said
answers_line opening reads seen place line said inside there says = record {
  line = line;
  inside = subst (λ (k : ℕ). k < length reads) (sym says.here) inside;
  there = subst (λ (k : ℕ). line ≡ get_or reads k line) (sym says.here) there;
  says = record { list = says.list; here = refl; begins = says.begins; counted = says.counted; answer = says.answer };
}

pub trusted : (opening : Basis) (reads : List ReadLine) (end old new : List Entry) (ready : Bool) (said : List Said) → IsPrefix old new → (IsTrue ready → IsPrefix end new) → All (Answers opening reads old) said
    → IsTrue ready → AllAnswer opening reads end new said
trusted opening reads end old new ready said seen told all is = record { learnt = told is; all = all_further opening reads old new said seen all }

within : (opening : Basis) (reads : List ReadLine) (end seen : List Entry) (place : ℕ) (line : ReadLine) (said : Said) → place < length reads → line ≡ get_or reads place line → said.place ≡ place
    → IsPrefix end seen → Answers opening reads seen said → SaysWithin opening line end said
within opening reads end seen place line said inside there here learnt answers =
    let same : answers.line ≡ line =
    answers.there ∙ ap (λ (k : ℕ). get_or reads k answers.line) here ∙ same_at reads place answers.line line inside ∙ sym there in
    record {
      list = answers.says.list;
      begins = λ le. shorter_begins answers.says.list end seen answers.says.begins learnt le;
      counted = answers.says.counted;
      answer = subst (λ (l : ReadLine). IsAnswer opening l.number (read_seen l.read) answers.says.list said.failed said.text) same answers.says.answer;
    }

-- what a seat said to the line at this place may be said
pub may_say : (opening : Basis) (reads : List ReadLine) (end : List Entry) (desk : DeskSeen) (place : ℕ) (line : ReadLine) (said : Option Said) → place < length reads → line ≡ get_or reads place line → IsTrusted opening reads end desk
    → (IsSome said → IsTrue desk.ready) → IfSome said (λ s. Contains desk.answers s × (s.place ≡ place)) → MaySay opening line end said
may_say opening reads end desk place line None inside there trusted ready among = tt
may_say opening reads end desk place line (Some said) inside there trusted ready among =
    let all = trusted (ready refl) in
    within opening reads end (seen_of desk.pass) place line said inside there among.1 all.learnt (All-contains (Answers opening reads (seen_of desk.pass)) desk.answers said all.all among.0)
