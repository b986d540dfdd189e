-- A text that a filter fits has each word of the filter whose ends are firm.
use Rattle.std.proofs.Common.{◌≡◌, ℕ, ◌<◌, List, [], ◌∷◌, ◌++◌, length, filter, Bool, true, false, not, cond, ◌&&◌, ◌||◌, ◌==◌, ◌⊎◌, inl, inr, refl, sym, ap, ◌∙◌, arith, All, length-append, append-nil}
use Rattle.std.specs.List.{slice_split, list_any, onto_first}
use Rattle.std.specs.Str.{bytes_eq}
use Rattle.std.specs.Char.{is_ascii_alphanumeric, to_ascii_lowercase}
use Rattle.std.proofs.lemmas.Bool.{and_parts, or_cases, or_right, cases_Bool, false≢true}
use Rattle.std.proofs.lemmas.List.{length-map}
use Rattle.std.proofs.lemmas.List.Elements.{All-nil, All-cons, All-head, All-tail, All-weaker}
use Rattle.std.proofs.lemmas.List.Splits.{slice_split_at, slice_split_none, slice_split-cons_yes, slice_split-cons_no}
use Rattle.std.proofs.lemmas.Slice.Eq.{bytes_eq-Decides}
use Rattle.dnr_spec.specs.Domains.{lower_case}
use Rattle.index_spec.specs.Words.{has_word, is_firm, ends_word, is_filled, words_of}
use Rattle.dnr_spec.specs.UrlFilter.{is_same, is_separator, some_end, fits_at}
use Rattle.index_laws.specs.Stands.{is_firm_behind, is_firm_before, is_cut, AreWord, Begins, Stands}
use Rattle.index_laws.proofs.Bytes.{separator_ends, same_lower, same_kind, alphanumeric_plain, firm_ends}

-- ---- one byte of the filter

step_by : (s x y z : Bool) → cond s (x && z) (y && z) ≡ true → ((s ≡ true) × (x ≡ true) × (z ≡ true)) ⊎ ((s ≡ false) × (y ≡ true) × (z ≡ true))
step_by true x y z h = inl (refl, (and_parts x z h).0, (and_parts x z h).1)
step_by false x y z h = inr (refl, (and_parts y z h).0, (and_parts y z h).1)

-- a byte of the filter that is no star takes a byte of the text
step : (ends fold : Bool) (c b : ℕ) (body text : List ℕ) → (c == 42) ≡ false → fits_at ends fold (c ∷ body) (b ∷ text) ≡ true
    → ((c == 94 ≡ true) × (is_separator b ≡ true) × (fits_at ends fold body text ≡ true)) ⊎ ((c == 94 ≡ false) × (is_same fold b c ≡ true) × (fits_at ends fold body text ≡ true))
step ends fold c b body text plain fit = step_by (c == 94) (is_separator b) (is_same fold b c) (fits_at ends fold body text) (rw plain at fit)

end_by : (s z : Bool) → cond s z false ≡ true → (s ≡ true) × (z ≡ true)
end_by true z h = (refl, h)
end_by false z h = absurd (false≢true h)

-- at the end of the text it is a `^`, which takes nothing
step_end : (ends fold : Bool) (c : ℕ) (body : List ℕ) → (c == 42) ≡ false → fits_at ends fold (c ∷ body) [] ≡ true → (c == 94 ≡ true) × (fits_at ends fold body [] ≡ true)
step_end ends fold c body plain fit = end_by (c == 94) (fits_at ends fold body []) (rw plain at fit)

-- what a firm byte takes is in no word
firm_step : (ends fold : Bool) (c b : ℕ) (body text : List ℕ) → is_firm c ≡ true → fits_at ends fold (c ∷ body) (b ∷ text) ≡ true → (is_ascii_alphanumeric b ≡ false) × (fits_at ends fold body text ≡ true)
firm_step ends fold c b body text firm fit =
    elim (step ends fold c b body text (firm_ends c firm).1 fit) [
      | inl w ↦ (separator_ends b w.1, w.2)
      | inr w ↦ (same_kind fold b c w.1 ∙ (firm_ends c firm).0, w.2)
    ]

-- ---- the word

cut_at : (ends fold : Bool) (behind text : List ℕ) → is_firm_behind ends behind ≡ true → fits_at ends fold behind text ≡ true → is_cut text ≡ true
cut_at ends fold behind [] firm fit = refl
cut_at true fold [] (b ∷ text) firm fit = absurd (false≢true fit)
cut_at false fold [] (b ∷ text) firm fit = absurd (false≢true firm)
cut_at ends fold (c ∷ behind) (b ∷ text) firm fit = ap not (firm_step ends fold c b behind text firm fit).0

pub front : (ends fold : Bool) (token behind text : List ℕ) → AreWord token → is_firm_behind ends behind ≡ true → fits_at ends fold (token ++ behind) text ≡ true → Begins token text
front ends fold [] behind text word firm fit = record { word = []; rest = text; is = refl; same = refl; whole = All-nil (λ b. is_ascii_alphanumeric b ≡ true); cut = cut_at ends fold behind text firm fit }
front ends fold (t ∷ token) behind [] word firm fit =
    let plain = alphanumeric_plain t (All-head (λ b. is_ascii_alphanumeric b ≡ true) t token word) in
    absurd (false≢true (sym plain.1 ∙ (step_end ends fold t (token ++ behind) plain.0 fit).0))
front ends fold (t ∷ token) behind (b ∷ text) word firm fit =
    let head : is_ascii_alphanumeric t ≡ true = All-head (λ b. is_ascii_alphanumeric b ≡ true) t token word in
    let plain = alphanumeric_plain t head in
    elim (step ends fold t b (token ++ behind) text plain.0 fit) [
      | inl w ↦ absurd (false≢true (sym plain.1 ∙ w.0))
      | inr w ↦
          let r : Begins token text = front ends fold token behind text (All-tail (λ b. is_ascii_alphanumeric b ≡ true) t token word) firm w.2 in
          record {
            word = b ∷ r.word;
            rest = r.rest;
            is = ap (λ l. b ∷ l) r.is;
            same = ap (λ x. x ∷ lower_case r.word) (same_lower fold b t w.1) ∙ ap (λ l. to_ascii_lowercase t ∷ l) r.same;
            whole = All-cons (λ b. is_ascii_alphanumeric b ≡ true) b r.word (same_kind fold b t w.1 ∙ head) r.whole;
            cut = r.cut;
          }
    ]

-- no word that has a byte begins at the end of a text
pub not_at_end : (token : List ℕ) → 0 < length token → Begins token [] → ⊥
not_at_end token some begins =
    let nothing : List ℕ = [] in
    let a : length nothing ≡ length (begins.word ++ begins.rest) = ap length begins.is in
    let b : length (lower_case begins.word) ≡ length (lower_case token) = ap length begins.same in
    let d : length begins.word ≡ length token = simp length-map at b in
    omega (arith, length-append begins.word begins.rest)

-- ---- what stands before the word

pub further : (b : ℕ) (token text : List ℕ) → Stands token text → Stands token (b ∷ text)
further b token text s = record { before = b ∷ s.before; byte = s.byte; text_behind = s.text_behind; is = ap (λ l. b ∷ l) s.is; ends = s.ends; begins = s.begins }

pub behind_star : (test : List ℕ → Bool) (token text : List ℕ) → ((rest : List ℕ) → test rest ≡ true → Stands token rest) → some_end test text ≡ true → Stands token text
behind_star test token [] each fit = each [] fit
behind_star test token (b ∷ text) each fit =
    elim (or_cases (test (b ∷ text)) (some_end test text) fit) [
      | inl here ↦ each (b ∷ text) here
      | inr later ↦ further b token text (behind_star test token text each later)
    ]

behind_byte : (ends fold : Bool) (c : ℕ) (body token text : List ℕ) → (c == 42) ≡ false → ((rest : List ℕ) → fits_at ends fold body rest ≡ true → Stands token rest) → fits_at ends fold (c ∷ body) text ≡ true → Stands token text
behind_byte ends fold c body token [] plain each fit = each [] (step_end ends fold c body plain fit).1
behind_byte ends fold c body token (b ∷ text) plain each fit =
    elim (step ends fold c b body text plain fit) [
      | inl w ↦ further b token text (each text w.2)
      | inr w ↦ further b token text (each text w.2)
    ]

last_byte : (ends fold : Bool) (c : ℕ) (token behind text : List ℕ) → is_firm c ≡ true → 0 < length token → AreWord token → is_firm_behind ends behind ≡ true → fits_at ends fold (c ∷ (token ++ behind)) text ≡ true → Stands token text
last_byte ends fold c token behind [] firm some word right fit =
    absurd (not_at_end token some (front ends fold token behind [] word right (step_end ends fold c (token ++ behind) (firm_ends c firm).1 fit).1))
last_byte ends fold c token behind (b ∷ text) firm some word right fit =
    let taken = firm_step ends fold c b (token ++ behind) text firm fit in
    record { before = []; byte = b; text_behind = text; is = refl; ends = taken.0; begins = front ends fold token behind text word right taken.1 }

pub stands : (ends fold : Bool) (before token behind text : List ℕ) → is_firm_before before ≡ true → 0 < length token → AreWord token → is_firm_behind ends behind ≡ true → fits_at ends fold (before ++ (token ++ behind)) text ≡ true → Stands token text
stands ends fold [] token behind text left some word right fit = absurd (false≢true left)
stands ends fold (c ∷ []) token behind text left some word right fit = last_byte ends fold c token behind text left some word right fit
stands ends fold (c ∷ d ∷ before) token behind text left some word right fit =
    let each : (rest : List ℕ) → fits_at ends fold ((d ∷ before) ++ (token ++ behind)) rest ≡ true → Stands token rest =
    λ rest h. stands ends fold (d ∷ before) token behind rest left some word right h in
    elim (cases_Bool (c == 42)) [
      | inl star ↦ behind_star (fits_at ends fold ((d ∷ before) ++ (token ++ behind))) token text each (rw star at fit)
      | inr plain ↦ behind_byte ends fold c ((d ∷ before) ++ (token ++ behind)) token text plain each fit
    ]

-- ---- the word is one of the words of the text

-- whether a word is the token, in whatever case
abbrev is_token : List ℕ → List ℕ → Bool
is_token token other = bytes_eq (lower_case other) (lower_case token)

abbrev tail_of : List (List ℕ) → List (List ℕ)
tail_of [] = []
tail_of (part ∷ parts) = parts

any_tail : (test : List ℕ → Bool) (parts : List (List ℕ)) → list_any test (tail_of parts) ≡ true → list_any test parts ≡ true
any_tail test [] has = has
any_tail test (part ∷ parts) has = or_right (test part) (list_any test parts) has

tail_onto : (b : ℕ) (parts : List (List ℕ)) → tail_of (onto_first b parts) ≡ tail_of parts
tail_onto b [] = refl
tail_onto b (part ∷ parts) = refl

-- parts behind a byte that ends a word are parts of the whole
parts_behind : (test : List ℕ → Bool) (before : List ℕ) (byte : ℕ) (behind : List ℕ) → ends_word byte ≡ true → list_any test (slice_split ends_word behind) ≡ true → list_any test (tail_of (slice_split ends_word (before ++ byte ∷ behind))) ≡ true
parts_behind test [] byte behind ends has = rw (slice_split-cons_yes ends_word byte behind ends) has
parts_behind test (b ∷ before) byte behind ends has =
    let rest : list_any test (tail_of (slice_split ends_word (before ++ byte ∷ behind))) ≡ true = parts_behind test before byte behind ends has in
    elim (cases_Bool (ends_word b)) [
      | inl cut ↦ rw (slice_split-cons_yes ends_word b (before ++ byte ∷ behind) cut) (any_tail test (slice_split ends_word (before ++ byte ∷ behind)) rest)
      | inr inner ↦ rw (slice_split-cons_no ends_word b (before ++ byte ∷ behind) inner, tail_onto b (slice_split ends_word (before ++ byte ∷ behind))) rest
    ]

-- the first part of a text that begins with the word
first_part : (test : List ℕ → Bool) (word rest : List ℕ) → AreWord word → is_cut rest ≡ true → test word ≡ true → list_any test (slice_split ends_word (word ++ rest)) ≡ true
first_part test word [] whole cut has =
    let inside : All (λ b. ends_word b ≡ false) word = All-weaker (λ b. is_ascii_alphanumeric b ≡ true) (λ b. ends_word b ≡ false) (λ b is. ap not is) word whole in
    rw (append-nil word, slice_split_none ends_word word inside, has) refl
first_part test word (b ∷ rest) whole cut has =
    let inside : All (λ b. ends_word b ≡ false) word = All-weaker (λ b. is_ascii_alphanumeric b ≡ true) (λ b. ends_word b ≡ false) (λ b is. ap not is) word whole in
    rw (slice_split_at ends_word word b rest inside cut, has) refl

-- a part that has a byte is a word
filled_by : (test : List ℕ → Bool) (part : List ℕ) (parts : List (List ℕ)) → test [] ≡ false → (test part || list_any test parts) ≡ true → (list_any test parts ≡ true → list_any test (filter is_filled parts) ≡ true) → list_any test (cond (is_filled part) (part ∷ filter is_filled parts) (filter is_filled parts)) ≡ true
filled_by test [] parts none has each = each (rw none at has)
filled_by test (b ∷ part) parts none has each =
    elim (or_cases (test (b ∷ part)) (list_any test parts) has) [
      | inl here ↦ rw here refl
      | inr later ↦ or_right (test (b ∷ part)) (list_any test (filter is_filled parts)) (each later)
    ]

any_filled : (test : List ℕ → Bool) (parts : List (List ℕ)) → test [] ≡ false → list_any test parts ≡ true → list_any test (filter is_filled parts) ≡ true
any_filled test [] none has = has
any_filled test (part ∷ parts) none has = filled_by test part parts none has (any_filled test parts none)

not_empty : (token : List ℕ) → 0 < length token → is_token token [] ≡ false
not_empty [] some = absurd (omega arith)
not_empty (t ∷ token) some = refl

begins_with : (token text : List ℕ) → Begins token text → list_any (is_token token) (slice_split ends_word text) ≡ true
begins_with token text begins =
    let has : is_token token begins.word ≡ true = (bytes_eq-Decides (lower_case begins.word) (lower_case token)).1 begins.same in
    rw begins.is (first_part (is_token token) begins.word begins.rest begins.whole begins.cut has)

-- the token is one of the words of a text that begins with it
pub begins_shown : (token text : List ℕ) → 0 < length token → Begins token text → has_word (words_of text) token ≡ true
begins_shown token text some begins = any_filled (is_token token) (slice_split ends_word text) (not_empty token some) (begins_with token text begins)

-- the token is one of the words of a text in which it stands
pub stands_shown : (token text : List ℕ) → 0 < length token → Stands token text → has_word (words_of text) token ≡ true
stands_shown token text some s =
    let parts : list_any (is_token token) (tail_of (slice_split ends_word (s.before ++ s.byte ∷ s.text_behind))) ≡ true =
    parts_behind (is_token token) s.before s.byte s.text_behind (ap not s.ends) (begins_with token s.text_behind s.begins) in
    any_filled (is_token token) (slice_split ends_word text) (not_empty token some)
    (rw s.is (any_tail (is_token token) (slice_split ends_word (s.before ++ s.byte ∷ s.text_behind)) parts))
