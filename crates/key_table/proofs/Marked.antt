-- Tags that are marked stay so, and a key whose tag is not marked has no place.
use Rattle.std.proofs.Common.{◌≡◌, ◌≢◌, ℕ, ◌+◌, ◌<◌, ◌==◌, List, [], length, get_or, set, true, false, inl, inr, Option, max, refl, sym, ap, ◌∙◌, subst, arith, eq-eqb}
use Rattle.std.specs.Prelude.{bit_or}
use Rattle.std.specs.Int.{bit_at}
use Rattle.std.specs.Int.Bits.{or_self}
use Rattle.std.proofs.lemmas.Bool.{cases_Bool, cases_lt, eqb-true, false≢true}
use Rattle.std.proofs.lemmas.List.{get_or-map, length-map, length-set, get_or-set_same, get_or-set_other}
use Rattle.std.proofs.lemmas.Nat.{or_comm}
use Rattle.std.proofs.lemmas.Nat.Bits.{same_from_bits, bit_at_or}
use Rattle.key_table.specs.declared.entry.Entry.{Entry}
use Rattle.key_table.specs.Hash.{bucket_of, tag_of}
use Rattle.key_table.specs.Kept.{AreEntries, pairs_in, tags_in}
use Rattle.key_table.specs.Marks.{AreMarked, is_marked, mark_of, with_mark}
use Rattle.key_table.specs.Pairs.{near_of}
use Rattle.key_table.proofs.Between.{none_here}

or_assoc : (a b c : ℕ) → bit_or (bit_or a b) c ≡ bit_or a (bit_or b c)
or_assoc a b c = same_from_bits (bit_or (bit_or a b) c) (bit_or a (bit_or b c)) (λ i.
    let l : bit_at (bit_or (bit_or a b) c) i ≡ max (max (bit_at a i) (bit_at b i)) (bit_at c i) = bit_at_or (bit_or a b) c i ∙ ap (λ n. max n (bit_at c i)) (bit_at_or a b i) in
    let r : bit_at (bit_or a (bit_or b c)) i ≡ max (bit_at a i) (max (bit_at b i) (bit_at c i)) = bit_at_or a (bit_or b c) i ∙ ap (max (bit_at a i)) (bit_at_or b c i) in
    l ∙ (let m : max (max (bit_at a i) (bit_at b i)) (bit_at c i) ≡ max (bit_at a i) (max (bit_at b i) (bit_at c i)) = omega arith in m) ∙ sym r)

-- what is set stays set
stays : (x m t : ℕ) → bit_or x t ≡ x → bit_or (bit_or x m) t ≡ bit_or x m
stays x m t is = or_assoc x m t ∙ ap (bit_or x) (or_comm m t) ∙ sym (or_assoc x t m) ∙ ap (λ n. bit_or n m) is

now_set : (x t : ℕ) → bit_or (bit_or x t) t ≡ bit_or x t
now_set x t = or_assoc x t t ∙ ap (bit_or x) (or_self t)

-- ---- marks

marked_at : (marks : List ℕ) (tag j x : ℕ) → bucket_of (length marks) tag ≡ j → get_or marks j 0 ≡ x → bit_or x (mark_of tag) ≡ x → is_marked marks tag ≡ true
marked_at marks tag j x at is has =
    let e : get_or marks (bucket_of (length marks) tag) 0 ≡ x = ap (λ k. get_or marks k 0) at ∙ is in
    eq-eqb _ _ (ap (λ n. bit_or n (mark_of tag)) e ∙ has ∙ sym e)

from_marked : (marks : List ℕ) (tag : ℕ) → is_marked marks tag ≡ true → bit_or (get_or marks (bucket_of (length marks) tag) 0) (mark_of tag) ≡ get_or marks (bucket_of (length marks) tag) 0
from_marked marks tag h = eqb-true _ _ h

still_marked : (marks : List ℕ) (b m tag : ℕ) → b < length marks → is_marked marks tag ≡ true → is_marked (set marks b (bit_or (get_or marks b 0) m)) tag ≡ true
still_marked marks b m tag within h =
    let x = get_or marks b 0 in
    let j = bucket_of (length marks) tag in
    let at : bucket_of (length (set marks b (bit_or x m))) tag ≡ j = ap (λ n. bucket_of n tag) (length-set marks b (bit_or x m)) in
    elim (cases_Bool (j == b)) [
      | inl same ↦
          let e : j ≡ b = eqb-true j b same in
          let own : bit_or x (mark_of tag) ≡ x = subst (λ (k : ℕ). bit_or (get_or marks k 0) (mark_of tag) ≡ get_or marks k 0) e (from_marked marks tag h) in
          marked_at (set marks b (bit_or x m)) tag b (bit_or x m) (at ∙ e) (get_or-set_same marks b (bit_or x m) 0 within) (stays x m (mark_of tag) own)
      | inr other ↦
          let differs : j ≢ b = λ e. false≢true (sym other ∙ eq-eqb j b e) in
          marked_at (set marks b (bit_or x m)) tag j (get_or marks j 0) at (get_or-set_other marks b j (bit_or x m) 0 differs) (from_marked marks tag h)
    ]

now_marked : (marks : List ℕ) (b tag : ℕ) → b < length marks → bucket_of (length marks) tag ≡ b → is_marked (set marks b (bit_or (get_or marks b 0) (mark_of tag))) tag ≡ true
now_marked marks b tag within is =
    let x = get_or marks b 0 in
    let new = bit_or x (mark_of tag) in
    marked_at (set marks b new) tag b new (ap (λ n. bucket_of n tag) (length-set marks b new) ∙ is) (get_or-set_same marks b new 0 within) (now_set x (mark_of tag))

pub marked_long : (marks : List ℕ) (tag : ℕ) → length (with_mark marks tag) ≡ length marks
marked_long marks tag = length-set marks (bucket_of (length marks) tag) (bit_or (get_or marks (bucket_of (length marks) tag) 0) (mark_of tag))

-- the tags up to a place, and the one that stands there
pub marked_more : (marks tags : List ℕ) (place tag : ℕ) → bucket_of (length marks) tag < length marks → tag ≡ get_or tags place 0
    → ((k : ℕ) → k < place → is_marked marks (get_or tags k 0) ≡ true)
    → (k : ℕ) → k < place + 1 → is_marked (with_mark marks tag) (get_or tags k 0) ≡ true
marked_more marks tags place tag within is so_far k less =
    let b = bucket_of (length marks) tag in
    elim (cases_lt k place) [
      | inl before ↦ still_marked marks b (mark_of tag) (get_or tags k 0) within (so_far k before)
      | inr behind ↦
          let e : place ≡ k = omega (arith, behind, less) in
          subst (λ (t : ℕ). is_marked (with_mark marks tag) t ≡ true) (is ∙ ap (λ n. get_or tags n 0) e) (now_marked marks b tag within refl)
    ]

-- a key whose tag is not marked has no place
pub unmarked : (texts key : List ℕ) (shown : Option ℕ) (entries : List Entry) (marks : List ℕ) (tag : ℕ) → AreEntries texts entries → AreMarked marks (tags_in entries) → tag ≡ tag_of key → is_marked marks tag ≡ false
    → near_of key shown (pairs_in texts entries) ≡ []
unmarked texts key shown entries marks tag all marked is fails =
    none_here texts key shown entries (λ k d low within same.
    let at : get_or (tags_in entries) k 0 ≡ tag = get_or-map (λ (e : Entry). e.tag) entries k d 0 within ∙ (all k d within).tag ∙ ap tag_of same ∙ sym is in
    let long : length (tags_in entries) ≡ length entries = simp length-map in
    let yes : is_marked marks tag ≡ true = subst (λ (t : ℕ). is_marked marks t ≡ true) at (marked.all k (omega (arith, within, long))) in
    false≢true (sym fails ∙ yes))
