-- A round from its work to what it says.
use Rattle.std.proofs.Common.{◌≡◌, ℕ, zero, suc, ◌+◌, ◌%◌, ◌≤◌, List, [], ◌∷◌, ◌++◌, length, map, get_or, replicate, Bool, true, false, Some, None, Result, Ok, Err, OnOk, refl, sym, ap, inl, inr, subst, arith, length-append, All}
use Rattle.std.specs.List.{AllZip}
use Rattle.std.specs.Prelude.{◌==◌, if◌then◌else◌}
use Rattle.std.proofs.lemmas.List.Elements.{All-nil, All-cons}
use mathlib.Core.List.{IsPrefix}
use Rattle.generation.specs.Basis.{Basis}
use Rattle.published.proofs.Beginnings.{begins_itself, begins_on}
use Rattle.update_spec.specs.Entries.{Entry}
use Rattle.session_laws.specs.Turns.{RiseBy, NoneFell}
use Rattle.session_spec.specs.Rounds.{asks}
use Rattle.session_spec.specs.Said.{Said, number_by, numbers_by, NeverFallFrom, count_failed}
use Rattle.session_rounds.specs.Lines.{read_seen, is_asked}
use Rattle.session_rounds.specs.Writing.{GoesOn, WriterSaid, WriterSays}
use Rattle.session_rounds.specs.Rounds.{LineSaid, LinesSaid, Settled, RoundAnswered}
use Rattle.session_rounds.specs.declared.read_line.ReadLine.{ReadLine}
use Rattle.session_rounds.proofs.Steps.{one_number}

-- ---- the entries of a round

pub goes_on_begins : (list next : List Entry) → GoesOn list next → IsPrefix list next
goes_on_begins list next (inl same) = subst (λ (l : List Entry). IsPrefix list l) (sym same) (begins_itself list)
goes_on_begins list next (inr one) = (one.0 ∷ [], sym one.1)

said_begins : (asked : Bool) (opening : Basis) (line : ReadLine) (list next : List Entry) (text : List ℕ) → WriterSaid asked opening line.number (read_seen line.read) list text next → IsPrefix list next
said_begins true opening line list next text said = subst (λ (l : List Entry). IsPrefix list l) (sym said.1) (begins_itself list)
said_begins false opening line list next text said = goes_on_begins list next said.goes_on

-- the entries before the lines begin those after them
pub writer_begins : (opening : Basis) (list : List Entry) (lines : List ReadLine) (texts : List (List ℕ)) (last : List Entry) → WriterSays opening list lines texts last → IsPrefix list last
writer_begins opening list [] texts last says = subst (λ (l : List Entry). IsPrefix list l) (sym says.1) (begins_itself list)
writer_begins opening list (line ∷ lines) texts last says =
    begins_on list says.next last (said_begins (is_asked (read_seen line.read)) opening line list says.next says.text says.first) (writer_begins opening says.next lines says.others last says.rest)

begins_shorter : (list other : List Entry) → IsPrefix list other → length list ≤ length other
begins_shorter list other begins = omega (arith, ap length begins.1, length-append list begins.0)

-- ---- hosts and desks

pub none_fell : {H : Type 0} (faults : H → ℕ) (before now : List H) → AllZip (λ b n. faults b ≤ faults n) before now → NoneFell (map faults before) (map faults now)
none_fell faults [] [] zip = tt
none_fell faults [] (n ∷ now) zip = absurd zip
none_fell faults (b ∷ before) [] zip = absurd zip
none_fell faults (b ∷ before) (n ∷ now) zip = (zip.0, none_fell faults before now zip.1)

pub each_after : {S : Type 0} (Q : S → Type 0) (before now : List S) → AllZip (λ b n. Q n) before now → All Q now
each_after Q [] [] zip = All-nil Q
each_after Q [] (n ∷ now) zip = absurd zip
each_after Q (b ∷ before) [] zip = absurd zip
each_after Q (b ∷ before) (n ∷ now) zip = All-cons Q n now zip.0 (each_after Q before now zip.1)

pub zip_long : {S : Type 0} (R : S → S → Type 0) (before now : List S) → AllZip R before now → length now ≡ length before
zip_long R [] [] zip = refl
zip_long R [] (n ∷ now) zip = absurd zip
zip_long R (b ∷ before) [] zip = absurd zip
zip_long R (b ∷ before) (n ∷ now) zip = omega (arith, zip_long R before now zip.1)

-- counts that rose so from later on rose so from earlier on
pub risen_from : (times : ℕ → ℕ) (before middle now : List ℕ) → NoneFell before middle → RiseBy times middle now → RiseBy times before now
risen_from times [] [] now fell rises = rises
risen_from times [] (m ∷ middle) now fell rises = absurd fell
risen_from times (b ∷ before) [] now fell rises = absurd fell
risen_from times (b ∷ before) (m ∷ middle) [] fell rises = absurd rises
risen_from times (b ∷ before) (m ∷ middle) (n ∷ now) fell rises =
    (omega (arith, fell.0, rises.0), risen_from (λ place. times (suc place)) before middle now fell.1 rises.1)

pub zeros : (n seat : ℕ) → get_or (replicate n 0) seat 0 ≤ 0
zeros zero seat = omega arith
zeros (suc n) zero = omega arith
zeros (suc n) (suc seat) = zeros n seat

-- ---- numbers

first_from : (least from number : ℕ) (numbers : List ℕ) → from ≤ number → NeverFallFrom least (number ∷ numbers) → NeverFallFrom from (number ∷ numbers)
first_from least from number numbers le order = (le, order.1)

-- the first number of a seat is none below the round's beginning
by_first : (mine : Bool) (place : ℕ) (told : Said) (said : List Said) (least from number bound : ℕ) → number_by place told ≡ (if mine then Some number else None) → from ≤ number
    → (NeverFallFrom least (numbers_by place said ++ bound ∷ []) → NeverFallFrom from (numbers_by place said ++ bound ∷ []))
    → NeverFallFrom least (numbers_by place (told ∷ said) ++ bound ∷ []) → NeverFallFrom from (numbers_by place (told ∷ said) ++ bound ∷ [])
by_first true place told said least from number bound is le rest order =
    let same = one_number place told said (Some number) is in
    subst (λ (ns : List ℕ). NeverFallFrom from (ns ++ bound ∷ [])) (sym same)
    (first_from least from number (numbers_by place said ++ bound ∷ []) le (subst (λ (ns : List ℕ). NeverFallFrom least (ns ++ bound ∷ [])) same order))
by_first false place told said least from number bound is le rest order =
    let same = one_number place told said None is in
    subst (λ (ns : List ℕ). NeverFallFrom from (ns ++ bound ∷ [])) (sym same) (rest (subst (λ (ns : List ℕ). NeverFallFrom least (ns ++ bound ∷ [])) same order))

by_line : (asked : Bool) (opening : Basis) (floor end : List Entry) (seat : ℕ) (line : ReadLine) (list next : List Entry) (place : ℕ) (told : Said) (said : List Said) (least : ℕ)
    → LineSaid asked opening floor end seat (read_seen line.read) list told next
    → (NeverFallFrom least (numbers_by place said ++ length end ∷ []) → NeverFallFrom (length floor) (numbers_by place said ++ length end ∷ []))
    → NeverFallFrom least (numbers_by place (told ∷ said) ++ length end ∷ []) → NeverFallFrom (length floor) (numbers_by place (told ∷ said) ++ length end ∷ [])
by_line true opening floor end seat line list next place told said least one rest order =
    by_first (seat == place) place told said least (length floor) (length one.0.list) (length end) (ap (number_by place) one.0.same) (begins_shorter floor one.0.list one.0.from) rest order
by_line false opening floor end seat line list next place told said least one rest order =
    by_first false place told said least (length floor) (length floor) (length end) (one.nobody place) (omega arith) rest order

pub numbers_from : (opening : Basis) (floor end : List Entry) (seats asked : ℕ) (list : List Entry) (lines : List ReadLine) (said : List Said) (last : List Entry) (place least : ℕ) → IsPrefix floor end
    → LinesSaid opening floor end seats asked list lines said last → NeverFallFrom least (numbers_by place said ++ length end ∷ []) → NeverFallFrom (length floor) (numbers_by place said ++ length end ∷ [])
numbers_from opening floor end seats asked list [] said last place least begins says order =
    subst (λ (ts : List Said). NeverFallFrom (length floor) (numbers_by place ts ++ length end ∷ [])) (sym says.0) (begins_shorter floor end begins, tt)
numbers_from opening floor end seats asked list (line ∷ lines) said last place least begins says order =
    subst (λ (ts : List Said). NeverFallFrom (length floor) (numbers_by place ts ++ length end ∷ [])) (sym says.all)
    (by_line (is_asked (read_seen line.read)) opening floor end (asked % seats) line list says.next place says.told says.others least says.first
    (numbers_from opening floor end seats (asked + asks (read_seen line.read)) says.next lines says.others last place least begins says.rest)
    (subst (λ (ts : List Said). NeverFallFrom least (numbers_by place ts ++ length end ∷ [])) says.all order))

-- ---- the round

pub round_answered : {T E : Type 0} (result : Result T E) (opening : Basis) (floor end : List Entry) (seats : ℕ) (lines : List ReadLine) (texts : List (List ℕ)) (lasts before now was middle is : List ℕ)
    → WriterSays opening floor lines texts end → NoneFell was middle → OnOk result (Settled opening floor end seats 0 floor lines end lasts before now middle is)
    → OnOk result (RoundAnswered opening seats lines floor end before now was is)
round_answered (Err e) opening floor end seats lines texts lasts before now was middle is written fell settled = tt
round_answered (Ok x) opening floor end seats lines texts lasts before now was middle is written fell settled = record {
  said = settled.said;
  says = settled.says;
  text = settled.text;
  order = λ seat. numbers_from opening floor end seats 0 floor lines settled.said end seat (get_or lasts seat 0) (writer_begins opening floor lines texts end written) settled.says (settled.order seat);
  rises = risen_from (λ seat. count_failed seat settled.said) was middle is fell settled.rises;
}
