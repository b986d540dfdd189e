-- How the table of places changes with a part of the text, place by place.
use Rattle.std.proofs.Common.{◌≡◌, ◌≢◌, ◌⊎◌, inl, inr, ⊎_elim, ℕ, zero, suc, ◌+◌, ◌<◌, ◌≤◌, List, [], length, drop, get_or, set, Bool, false, ◌&&◌, ◌||◌, refl, sym, ap, ◌∙◌, arith, get_or-set_other, get_or-set_same}
use Rattle.std.proofs.lemmas.Bool.{cases_lt}
use Rattle.std.proofs.lemmas.List.{drop_more}
use Rattle.std.proofs.Math.Seq.{drop-length}
use Rattle.dnr_spec.specs.declared.piece.Piece.{Piece}
use Rattle.dnr_spec.specs.declared.piece.Piece.TheVariants.{AnyBytes, AtMostOne, Byte}
use Rattle.dnr_spec.specs.UrlFilter.{is_same}
use Rattle.dnr_spec.specs.Wildcards.{takes}
use Rattle.wildcard.specs.Words.{tells, AreNoted}
use Rattle.wildcard.specs.Places.{takes_from, Stands, WordTells, TellsBefore, RowStands}
use Rattle.wildcard.specs.declared.places.Row.{Row}
use Rattle.wildcard.proofs.Bits.{tells_none}
use Rattle.wildcard.proofs.Takes.{takes_at}

pub first_or_later : (q k : ℕ) → q ≤ k → (k ≡ q) ⊎ (q + 1 ≤ k)
first_or_later q k from = ⊎_elim (λ (more : q < k). inr (omega arith)) (λ (most : k ≤ q). inl (omega arith)) (cases_lt q k)

-- ---- the word of one place more

-- of a star, from the part's last byte on
star_tells : (fold : Bool) (pieces : List Piece) (text : List ℕ) (from to place : ℕ) (d : Piece) (old : Bool) (word result : ℕ)
    → place < length pieces → get_or pieces place d ≡ AnyBytes → to ≤ length text → to ≤ 64 + from → old ≡ takes_from fold pieces text place to
    → tells result 0 ≡ (tells word 0 || old) → ((i : ℕ) → i < 63 → tells result (i + 1) ≡ (tells word (i + 1) || tells result i))
    → WordTells fold pieces text from to (place + 1) word → (i j : ℕ) → (i + j) + 1 ≡ to → from ≤ j → tells result i ≡ takes_from fold pieces text place j
star_tells fold pieces text from to place d old word result less is within few is_old last others next zero j at order =
    let byte : j < length text = omega arith in
    let end : to ≡ j + 1 = omega arith in
    last
    ∙ ap (λ t. t || old) (next 0 j at order)
    ∙ ap (λ t. takes_from fold pieces text (place + 1) j || t) (is_old ∙ ap (takes_from fold pieces text place) end)
    ∙ sym (takes_at fold pieces text place j d AnyBytes less byte is)
star_tells fold pieces text from to place d old word result less is within few is_old last others next (suc i) j at order =
    let byte : j < length text = omega arith in
    let more : suc i ≡ i + 1 = omega arith in
    ap (tells result) more
    ∙ others i (omega arith)
    ∙ ap (λ t. t || tells result i) (next (i + 1) j (omega arith) order)
    ∙ ap (λ t. takes_from fold pieces text (place + 1) j || t)
    (star_tells fold pieces text from to place d old word result less is within few is_old last others next i (j + 1) (omega arith) (omega arith))
    ∙ sym (takes_at fold pieces text place j d AnyBytes less byte is)

-- of the byte behind each
behind_tells : (fold : Bool) (pieces : List Piece) (text : List ℕ) (from to place : ℕ) (was : Bool) (word behind : ℕ)
    → to ≤ 64 + from → was ≡ takes_from fold pieces text place to → tells behind 0 ≡ was → ((i : ℕ) → i < 63 → tells behind (i + 1) ≡ tells word i)
    → WordTells fold pieces text from to place word → (i j : ℕ) → (i + j) + 1 ≡ to → from ≤ j → tells behind i ≡ takes_from fold pieces text place (j + 1)
behind_tells fold pieces text from to place was word behind few is_was last others next zero j at order =
    last ∙ is_was ∙ ap (takes_from fold pieces text place) (let e : to ≡ j + 1 = omega arith in e)
behind_tells fold pieces text from to place was word behind few is_was last others next (suc i) j at order =
    ap (tells behind) (let e : suc i ≡ i + 1 = omega arith in e) ∙ others i (omega arith) ∙ next i (j + 1) (omega arith) (omega arith)

pub star_before : (fold : Bool) (words : List ℕ) (old was : Bool) (word result : ℕ)
    → tells result 0 ≡ (tells word 0 || old) → ((i : ℕ) → i < 63 → tells result (i + 1) ≡ (tells word (i + 1) || tells result i))
    → TellsBefore fold words AnyBytes old was word result
star_before fold words old was word result last others pieces text from to count place d less is within part few noted is_old is_was next =
    star_tells fold pieces text from to place d old word result less is within (omega arith) is_old last others next

pub question_before : (fold : Bool) (words : List ℕ) (old was : Bool) (word behind result : ℕ)
    → tells behind 0 ≡ was → ((i : ℕ) → i < 63 → tells behind (i + 1) ≡ tells word i) → ((i : ℕ) → tells result i ≡ (tells word i || tells behind i))
    → TellsBefore fold words AtMostOne old was word result
question_before fold words old was word behind result last others is_result pieces text from to count place d less is within part few noted is_old is_was next i j at order =
    let byte : j < length text = omega arith in
    is_result i
    ∙ ap (λ t. t || tells behind i) (next i j at order)
    ∙ ap (λ t. takes_from fold pieces text (place + 1) j || t) (behind_tells fold pieces text from to (place + 1) was word behind (omega arith) is_was last others next i j at order)
    ∙ sym (takes_at fold pieces text place j d AtMostOne less byte is)

pub byte_before : (fold : Bool) (words : List ℕ) (c : ℕ) (old was : Bool) (word behind found result : ℕ)
    → tells behind 0 ≡ was → ((i : ℕ) → i < 63 → tells behind (i + 1) ≡ tells word i)
    → ((text : List ℕ) (to count i j : ℕ) → AreNoted fold text to count words → i < count → (i + j) + 1 ≡ to → tells found i ≡ is_same fold (get_or text j 0) c)
    → ((i : ℕ) → tells result i ≡ (tells behind i && tells found i))
    → TellsBefore fold words (Byte c) old was word result
byte_before fold words c old was word behind found result last others is_found is_result pieces text from to count place d less is within part few noted is_old is_was next i j at order =
    let byte : j < length text = omega arith in
    is_result i
    ∙ ap (λ t. t && tells found i) (behind_tells fold pieces text from to (place + 1) was word behind (omega arith) is_was last others next i j at order)
    ∙ ap (λ t. takes_from fold pieces text (place + 1) (j + 1) && t) (is_found text to count i j noted (omega arith) at)
    ∙ sym (takes_at fold pieces text place j d (Byte c) less byte is)

-- ---- the row

pub row_begins : (fold : Bool) (pieces : List Piece) (text : List ℕ) (from to : ℕ) (table : List Bool) → length pieces < length table → from < to → to ≤ length text
    → Stands fold pieces text to table
    → RowStands fold pieces text from to (set table (length pieces) false) (record { place = length pieces; was = get_or table (length pieces) false; word = 0 })
row_begins fold pieces text from to table room order within s =
    let ends : (j : ℕ) → j < length text → false ≡ takes_from fold pieces text (length pieces) j = λ j less.
    sym (ap (λ q. takes fold q (drop j text)) (drop-length pieces) ∙ ap (takes fold []) (drop_more text j 0 less)) in
    record {
      order = omega arith;
      was = s (length pieces) (omega arith);
      word = λ i j at after. tells_none i ∙ ends j (omega arith);
      before = λ k less.
          let other : k ≢ length pieces = omega arith in
          get_or-set_other table (length pieces) k false false other ∙ s k (omega arith);
      told = λ k after most.
          let same : k ≡ length pieces = omega arith in
          ap (λ i. get_or (set table (length pieces) false) i false) same
          ∙ get_or-set_same table (length pieces) false false room
          ∙ ends from (omega arith)
          ∙ ap (λ i. takes_from fold pieces text i from) (sym same);
    }

pub row_more : (fold : Bool) (pieces : List Piece) (text : List ℕ) (from to first : ℕ) (table : List Bool) (words : List ℕ) (row : Row) (q : ℕ) (d : Piece) (word : ℕ) (now : Bool)
    → row.place ≡ q + 1 → length pieces < length table → to ≤ length text → (first + 1) + from ≡ to → first < 64 → AreNoted fold text to (first + 1) words
    → TellsBefore fold words (get_or pieces q d) (get_or table q false) row.was row.word word
    → now ≡ tells word first
    → RowStands fold pieces text from to table row
    → RowStands fold pieces text from to (set table q now) (record { place = q; was = get_or table q false; word = word })
row_more fold pieces text from to first table words row q d word now e room within part few noted before is_now r =
    let less : q < length pieces = let o = r.order in omega arith in
    let old : get_or table q false ≡ takes_from fold pieces text q to = r.before q (omega arith) in
    let was : row.was ≡ takes_from fold pieces text (q + 1) to = r.was ∙ ap (λ k. takes_from fold pieces text k to) e in
    let next : WordTells fold pieces text from to (q + 1) row.word = λ i j at order. r.word i j at order ∙ ap (λ k. takes_from fold pieces text k j) e in
    let here : WordTells fold pieces text from to q word = before pieces text from to (first + 1) q d less refl within part (omega arith) noted old was next in
    record {
      order = omega arith;
      was = old;
      word = here;
      before = λ k lt.
          let other : k ≢ q = omega arith in
          get_or-set_other table q k now false other ∙ r.before k (omega arith);
      told = λ k after most. ⊎_elim
          (λ (same : k ≡ q).
          let room_here : q < length table = omega arith in
          ap (λ i. get_or (set table q now) i false) same
          ∙ get_or-set_same table q now false room_here
          ∙ is_now
          ∙ here first from (omega arith) (omega arith)
          ∙ ap (λ i. takes_from fold pieces text i from) (sym same))
          (λ (later : q + 1 ≤ k).
          let other : k ≢ q = omega arith in
          get_or-set_other table q k now false other ∙ r.told k (omega arith) most)
          (first_or_later q k after);
    }
