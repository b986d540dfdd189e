-- The places of a byte that are left of a search.
use Rattle.std.proofs.Common.{◌≡◌, ◌<◌, ◌≤◌, ◌+◌, ◌-◌, ℕ, zero, suc, List, [], ◌∷◌, length, drop, get_or, Bool, false, sym, ap, ◌∙◌, subst, ⊎_elim, arith}
use Rattle.std.proofs.lemmas.Bool.{cases_Bool, cases_lt, cond-true, cond-false, true≢false}
use Rattle.std.proofs.lemmas.List.{drop-drop, length-drop}
use Rattle.std.proofs.Math.Seq.{drop-length}
use Rattle.memchr.specs.Find.{is_byte2, places_from}
use Rattle.dnr_spec.specs.UrlFilter.{fits_at, is_same, some_end}
use Rattle.url_filter.specs.Sought.{IsSought}
use Rattle.url_filter.proofs.Skipped.{fails_without, skip_to}

module _ (test : ℕ → Bool) (hay : List ℕ) where
  -- the first of these places, and those behind it
  record IsNext (from count place : ℕ) (later : List ℕ) : Type 0 where
    low : from ≤ place
    high : place < from + count
    none : (k : ℕ) → from ≤ k → k < place → test (get_or hay k 0) ≡ false
    left : later ≡ places_from test hay (place + 1) (from + count - (place + 1))

  next : (count from place : ℕ) (later : List ℕ) → places_from test hay from count ≡ place ∷ later → IsNext from count place later
  unfolding places_from
  next zero from place later e = absurd (cc)
  next (suc count) from place later e =
      let behind : List ℕ = places_from test hay (from + 1) count in
      ⊎_elim
      (λ yes.
      let both : from ∷ behind ≡ place ∷ later = sym (cond-true (test (get_or hay from 0)) (from ∷ behind) behind yes) ∙ e in
      let same : from ≡ place = cc in
      let rest : behind ≡ later = cc in
      let counted : from + suc count - (place + 1) ≡ count = omega arith in
      let begins : from + 1 ≡ place + 1 = omega arith in
      record {
        low = omega arith;
        high = omega arith;
        none = λ k a b. absurd (omega arith);
        left = sym rest ∙ ap (λ i. places_from test hay i count) begins ∙ ap (places_from test hay (place + 1)) (sym counted);
      })
      (λ nope.
      let further = next count (from + 1) place later (sym (cond-false (test (get_or hay from 0)) (from ∷ behind) behind nope) ∙ e) in
      let low : from + 1 ≤ place = further.low in
      let high : place < from + 1 + count = further.high in
      let counted : from + 1 + count - (place + 1) ≡ from + suc count - (place + 1) = omega arith in
      record {
        low = omega arith;
        high = omega arith;
        none = λ k a b. ⊎_elim
            (λ more. further.none k (omega arith) b)
            (λ here. let same : from ≡ k = omega arith in subst (λ (i : ℕ). test (get_or hay i 0) ≡ false) same nope)
            (cases_lt from k);
        left = further.left ∙ ap (places_from test hay (place + 1)) counted;
      })
      (cases_Bool (test (get_or hay from 0)))

  none_left : (count from : ℕ) → places_from test hay from count ≡ [] → (k : ℕ) → from ≤ k → k < from + count → test (get_or hay k 0) ≡ false
  unfolding places_from
  none_left zero from e k a b = absurd (omega arith)
  none_left (suc count) from e k a b =
      let behind : List ℕ = places_from test hay (from + 1) count in
      ⊎_elim
      (λ yes. let both : from ∷ behind ≡ [] = sym (cond-true (test (get_or hay from 0)) (from ∷ behind) behind yes) ∙ e in absurd (cc))
      (λ nope. ⊎_elim
      (λ more. none_left count (from + 1) (sym (cond-false (test (get_or hay from 0)) (from ∷ behind) behind nope) ∙ e) k (omega arith) (omega arith))
      (λ here. let same : from ≡ k = omega arith in subst (λ (i : ℕ). test (get_or hay i 0) ≡ false) same nope)
      (cases_lt from k))
      (cases_Bool (test (get_or hay from 0)))

-- `left` are the places of the haystack from some place on, and none before it passes the test q of the text
pub record IsLeft (test : ℕ → Bool) (hay : List ℕ) (q : List ℕ → Bool) (text left : List ℕ) : Type 0 where
  pub from : ℕ
  pub within : from ≤ length hay
  pub same : some_end q text ≡ some_end q (drop from text)
  pub places : left ≡ places_from test hay from (length hay - from)

skip_between : (q : List ℕ → Bool) (text : List ℕ) (from n : ℕ) → from ≤ n → n ≤ length text → ((k : ℕ) → from ≤ k → k < n → q (drop k text) ≡ false) → some_end q (drop from text) ≡ some_end q (drop n text)
skip_between q text from n le within fails =
    let e = length-drop from text in
    let whole : from + (n - from) ≡ n = omega arith in
    skip_to q (drop from text) (n - from) (omega (arith, e)) (λ k less. ap q (drop-drop k from text) ∙ fails (from + k) (omega arith) (omega arith))
    ∙ ap (some_end q) (drop-drop (n - from) from text ∙ ap (λ i. drop i text) whole)

pub fails_all : (q : List ℕ → Bool) (text : List ℕ) → ((k : ℕ) → q (drop k text) ≡ false) → some_end q text ≡ false
fails_all q text fails =
    skip_to q text (length text) (omega arith) (λ k less. fails k)
    ∙ ap (some_end q) (drop-length text) ∙ sym (ap q (drop-length text)) ∙ fails (length text)

module _ (test : ℕ → Bool) (hay : List ℕ) (q : List ℕ → Bool) (text : List ℕ) (within : length hay ≤ length text) (fails : (k : ℕ) → test (get_or hay k 0) ≡ false → q (drop k text) ≡ false) where
  first_of : (left later : List ℕ) (place : ℕ) (l : IsLeft test hay q text left) → left ≡ place ∷ later → IsNext test hay l.from (length hay - l.from) place later
  first_of left later place l e = next test hay (length hay - l.from) l.from place later (sym l.places ∙ e)

  pub place_within : (left later : List ℕ) (place : ℕ) → IsLeft test hay q text left → left ≡ place ∷ later → place < length hay
  place_within left later place l e = omega (arith, (first_of left later place l e).high, l.within)

  pub place_decides : (left later : List ℕ) (place : ℕ) → IsLeft test hay q text left → left ≡ place ∷ later → some_end q text ≡ some_end q (drop place text)
  place_decides left later place l e =
      let first = first_of left later place l e in
      let inside : place < length hay = place_within left later place l e in
      l.same ∙ skip_between q text l.from place first.low (omega arith) (λ k a b. fails k (first.none k a b))

  pub later_left : (left later : List ℕ) (place : ℕ) → IsLeft test hay q text left → left ≡ place ∷ later → q (drop place text) ≡ false → IsLeft test hay q text later
  later_left left later place l e failed =
      let first = first_of left later place l e in
      let inside : place < length hay = place_within left later place l e in
      let before : l.from ≤ length hay = l.within in
      let counted : l.from + (length hay - l.from) - (place + 1) ≡ length hay - (place + 1) = omega arith in
      record {
        from = place + 1;
        within = omega arith;
        same = place_decides left later place l e ∙ skip_between q text place (place + 1) (omega arith) (omega arith) (λ k a b. let at : place ≡ k = omega arith in subst (λ (i : ℕ). q (drop i text) ≡ false) at failed);
        places = first.left ∙ ap (places_from test hay (place + 1)) counted;
      }

  pub none_fits : (left : List ℕ) → IsLeft test hay q text left → left ≡ [] → ((k : ℕ) → length hay ≤ k → q (drop k text) ≡ false) → some_end q text ≡ false
  none_fits left l e past =
      let before : l.from ≤ length hay = l.within in
      l.same
      ∙ skip_between q text l.from (length text) (omega arith) (omega arith) (λ k a b. ⊎_elim
      (λ inside. fails k (none_left test hay (length hay - l.from) l.from (sym l.places ∙ e) k a (omega arith)))
      (λ outside. past k outside)
      (cases_lt k (length hay)))
      ∙ ap (some_end q) (drop-length text) ∙ sym (ap q (drop-length text)) ∙ past (length text) within

-- ---- the places of the byte that a pattern is sought by

module _ (ends fold : Bool) (p text : List ℕ) (o other : ℕ) (sought : IsSought p o) where
  pub fails_past : (k : ℕ) → length (drop o text) ≤ k → fits_at ends fold p (drop k text) ≡ false
  fails_past k past = let e = length-drop o text in fails_without ends fold p text o k sought (λ inside. absurd (omega (arith, e)))

  pub fails_beside : ((x : ℕ) → is_same fold x (get_or p o 0) ≡ is_byte2 (get_or p o 0) other x) → (k : ℕ) → is_byte2 (get_or p o 0) other (get_or (drop o text) k 0) ≡ false → fits_at ends fold p (drop k text) ≡ false
  fails_beside same k differs = fails_without ends fold p text o k sought (λ inside stands. absurd (true≢false (sym stands ∙ same (get_or (drop o text) k 0) ∙ differs)))

  pub shorter_text : length (drop o text) ≤ length text
  shorter_text = let e = length-drop o text in omega (arith, e)
