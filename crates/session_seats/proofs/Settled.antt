-- One line that asks a seat, when the round has ended, and how that goes on.
use Rattle.std.proofs.Common.{◌≡◌, ◌<◌, ◌≤◌, ◌+◌, ℕ, zero, suc, List, [], ◌∷◌, ◌++◌, length, map, set, get_or, Bool, true, false, refl, sym, ap, ◌∙◌, subst, arith}
use Rattle.std.specs.Prelude.{cond}
use mathlib.Core.List.{IsPrefix}
use Rattle.generation.specs.Basis.{Basis}
use Rattle.history.proofs.Beginnings.{shorter_begins}
use Rattle.published.proofs.Beginnings.{begins_itself}
use Rattle.published.proofs.Counted.{entries_are_counted}
use Rattle.update_spec.specs.Entries.{Entry, replay}
use Rattle.session_laws.specs.Turns.{NoneFell}
use Rattle.session_rounds.specs.Lines.{read_seen, is_asking}
use Rattle.session_rounds.specs.Rounds.{SeatTold}
use Rattle.session_rounds.specs.declared.read_line.ReadLine.{ReadLine}
use Rattle.session_spec.specs.Answers.{RisesBy}
use Rattle.session_spec.specs.Said.{answer_line}
use Rattle.session_seats.specs.Rounds.{AnsweredAnew, AreWithin}
use Rattle.session_seats.specs.Seats.{SaysWithin}
use Rattle.session_seats.specs.Said.{Said}

-- ---- what a seat said stands

told_calm : (failed : Bool) (counted now : ℕ) → failed ≡ false → now ≡ counted → RisesBy (cond failed 1 0) (record { before = counted; now = now })
told_calm true counted now is same = absurd (cc is)
told_calm false counted now is same = omega (arith, same)

told_fault : (failed : Bool) (counted now : ℕ) → now ≡ counted + 1 → RisesBy (cond failed 1 0) (record { before = counted; now = now })
told_fault true counted now same = omega (arith, same)
told_fault false counted now same = omega (arith, same)

stands : (opening : Basis) (floor end : List Entry) (line : ReadLine) (said : Said) (least last : ℕ) (before now : List ℕ) (was is : ℕ) → IsPrefix floor end → length floor ≤ least → least ≤ said.number → said.number ≤ length end
    → (says : SaysWithin opening line end said) → now ≡ before ++ said.text → last ≡ said.number → RisesBy (cond said.failed 1 0) (record { before = was; now = is })
    → SeatTold opening floor end line.number (read_seen line.read) least last before now was is
stands opening floor end line said least last before now was is begins above later within says grown same rises =
    let few : length says.list ≤ length end = omega (arith, within, says.counted) in
    record {
      list = says.list;
      answer = says.answer.answer;
      from = shorter_begins floor says.list end begins (says.begins few) (omega (arith, above, later, says.counted));
      to = says.begins few;
      fits = says.answer.fits;
      appended = grown ∙ ap (λ t. before ++ t) says.answer.same;
      later = omega (arith, later, says.counted);
      same = same ∙ says.counted;
      rises = subst (λ (b : Bool). RisesBy (cond b 1 0) (record { before = was; now = is })) (sym says.answer.kind) rises;
    }

pub stands_calm : (opening : Basis) (floor end : List Entry) (line : ReadLine) (said : Said) (least last : ℕ) (before now : List ℕ) (was is : ℕ) → IsPrefix floor end → length floor ≤ least → least ≤ said.number → said.number ≤ length end
    → SaysWithin opening line end said → now ≡ before ++ said.text → last ≡ said.number → said.failed ≡ false → is ≡ was
    → SeatTold opening floor end line.number (read_seen line.read) least last before now was is
stands_calm opening floor end line said least last before now was is begins above later within says grown same calm stays =
    stands opening floor end line said least last before now was is begins above later within says grown same (told_calm said.failed was is calm stays)

pub stands_failed : (opening : Basis) (floor end : List Entry) (line : ReadLine) (said : Said) (least last : ℕ) (before now : List ℕ) (was is : ℕ) → IsPrefix floor end → length floor ≤ least → least ≤ said.number → said.number ≤ length end
    → SaysWithin opening line end said → now ≡ before ++ said.text → last ≡ said.number → is ≡ was + 1
    → SeatTold opening floor end line.number (read_seen line.read) least last before now was is
stands_failed opening floor end line said least last before now was is begins above later within says grown same up =
    stands opening floor end line said least last before now was is begins above later within says grown same (told_fault said.failed was is up)

-- ---- what is decided anew

pub anew : (opening : Basis) (floor end : List Entry) (line : ReadLine) (least last : ℕ) (before now : List ℕ) (counted was is : ℕ) → opening.state.count ≡ 0 → IsPrefix floor end → least ≤ length end → last ≡ length end → counted ≤ was
    → is_asking line ≡ true → AnsweredAnew opening end line before now was is
    → SeatTold opening floor end line.number (read_seen line.read) least last before now counted is
anew opening floor end line least last before now counted was is fresh begins below same rose asks told =
    let answered = told asks in
    let count : (replay opening.state end).count ≡ length end = omega (arith, entries_are_counted opening.state end, fresh) in
    record {
      list = end;
      answer = answered.answer;
      from = begins;
      to = begins_itself end;
      fits = answered.fits;
      appended = answered.appended ∙ ap (λ (n : ℕ). before ++ answer_line line.number n answered.answer) count;
      later = below;
      same = same;
      rises = omega (arith, rose, answered.rises);
    }

-- ---- numbers and counts of all seats

pub within_all : (least most : ℕ) (numbers : List ℕ) → AreWithin least most numbers → (place : ℕ) → get_or numbers place 0 ≤ most
within_all least most [] within place = omega arith
within_all least most (n ∷ numbers) within zero = (within 0 (omega arith)).1
within_all least most (n ∷ numbers) within (suc place) = within_all least most numbers (λ k inside. within (suc k) (omega (arith, inside))) place

set_cons : (least most n : ℕ) (numbers : List ℕ) → least ≤ n → n ≤ most → AreWithin least most numbers → AreWithin least most (n ∷ numbers)
set_cons least most n numbers above below within zero inside = (above, below)
set_cons least most n numbers above below within (suc place) inside = within place (omega (arith, inside))

pub within_set : (least most : ℕ) (numbers : List ℕ) (seat n : ℕ) → least ≤ n → n ≤ most → AreWithin least most numbers → AreWithin least most (set numbers seat n)
within_set least most [] seat n above below within = within
within_set least most (x ∷ numbers) zero n above below within = set_cons least most n numbers above below (λ k inside. within (suc k) (omega (arith, inside)))
within_set least most (x ∷ numbers) (suc seat) n above below within =
    set_cons least most x (set numbers seat n) (within 0 (omega arith)).0 (within 0 (omega arith)).1 (within_set least most numbers seat n above below (λ k inside. within (suc k) (omega (arith, inside))))

-- no count is above that of its host, after one of each rose
pub still_below : {H : Type 0} (faults : H → ℕ) (counted : List ℕ) (hosts : List H) (seat n : ℕ) (host : H) → n ≤ faults host → NoneFell counted (map faults hosts) → NoneFell (set counted seat n) (map faults (set hosts seat host))
still_below faults [] [] seat n host le fell = fell
still_below faults [] (h ∷ hosts) seat n host le fell = absurd fell
still_below faults (c ∷ counted) [] seat n host le fell = absurd fell
still_below faults (c ∷ counted) (h ∷ hosts) zero n host le fell = (le, fell.1)
still_below faults (c ∷ counted) (h ∷ hosts) (suc seat) n host le fell = (fell.0, still_below faults counted hosts seat n host le fell.1)

pub below_at : {H : Type 0} (faults : H → ℕ) (counted : List ℕ) (hosts : List H) (seat : ℕ) (d : H) → seat < length hosts → NoneFell counted (map faults hosts) → get_or counted seat 0 ≤ faults (get_or hosts seat d)
below_at faults [] [] seat d inside fell = absurd (omega (arith, inside))
below_at faults [] (h ∷ hosts) seat d inside fell = absurd fell
below_at faults (c ∷ counted) [] seat d inside fell = absurd fell
below_at faults (c ∷ counted) (h ∷ hosts) zero d inside fell = fell.0
below_at faults (c ∷ counted) (h ∷ hosts) (suc seat) d inside fell = below_at faults counted hosts seat d (omega (arith, inside)) fell.1

-- ---- lists

pub set_long : {A : Type 0} (xs : List A) (i : ℕ) (x : A) → length (set xs i x) ≡ length xs
set_long [] i x = refl
set_long (y ∷ xs) zero x = refl
set_long (y ∷ xs) (suc i) x = omega (arith, set_long xs i x)

pub at_map : {A B : Type 0} (f : A → B) (xs : List A) (i : ℕ) (d : A) → get_or (map f xs) i (f d) ≡ f (get_or xs i d)
at_map f [] i d = refl
at_map f (x ∷ xs) zero d = refl
at_map f (x ∷ xs) (suc i) d = at_map f xs i d
