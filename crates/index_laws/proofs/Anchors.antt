-- The words that are shown, at each anchor.
use Rattle.std.proofs.Common.{◌≡◌, ℕ, zero, suc, ◌-◌, ◌<◌, List, [], ◌∷◌, ◌++◌, length, take, drop, get_or, Bool, true, false, ◌&&◌, ◌==◌, inl, inr, sym, ap, ◌∙◌, subst, arith, nat_lt}
use Rattle.std.specs.Char.{is_ascii_alphanumeric}
use Rattle.std.proofs.Math.Seq.{drop-cons}
use Rattle.std.proofs.lemmas.Bool.{and_parts, or_cases, cases_lt, false≢true, eqb-true}
use Rattle.std.proofs.lemmas.List.{take-append-drop}
use Rattle.std.proofs.lemmas.List.Elements.{All-weaker}
use Rattle.std.proofs.lemmas.Grind.{common_steps}
use Rattle.dnr_base.specs.declared.span.Span.{Span}
use Rattle.dnr_spec.specs.UrlFilter.{Anchor, anywhere, begin, domain, some_below, follows_dot, fits_at, fits_from, filter_of}
use Rattle.index_spec.specs.Words.{has_word, words_of, is_anchored, words_of_filter}
use Rattle.index_laws.specs.Stands.{is_firm_left, is_firm_behind, AreWord, Begins, Stands, IsFirmWord}
use Rattle.index_laws.specs.Shared.{IsHostCut, FirmWordsAreShown}
use Rattle.index_laws.proofs.Fitted.{front, stands, further, behind_star, not_at_end, begins_shown, stands_shown}
use Rattle.index_laws.proofs.Firm.{firm_words_are}

-- a place at which the test passes
some_place : (test : ℕ → Bool) (n : ℕ) → some_below test n ≡ true → (place : ℕ) × (test place ≡ true)
some_place test zero has = absurd (false≢true has)
some_place test (suc n) has =
    elim (or_cases (test n) (some_below test n) has) [
      | inl here ↦ (n, here)
      | inr below ↦ some_place test n below
    ]

-- the whole text, by what stands before the byte at a place
whole_at : (text : List ℕ) (place : ℕ) → place < length text → text ≡ take place text ++ get_or text place 0 ∷ drop (suc place) text
whole_at text place inside = sym (take-append-drop place text) ∙ ap (λ rest. take place text ++ rest) (drop-cons text place 0 inside)

-- what stands in the rest stands in the whole
stands_in_whole : (token before rest : List ℕ) → Stands token rest → Stands token (before ++ rest)
stands_in_whole token [] rest s = s
stands_in_whole token (b ∷ before) rest s = further b token (before ++ rest) (stands_in_whole token before rest s)

-- what begins behind a byte that is in no word stands in the text
stands_behind : (token text : List ℕ) (place : ℕ) → place < length text → is_ascii_alphanumeric (get_or text place 0) ≡ false → Begins token (drop (suc place) text) → Stands token text
stands_behind token text place inside ends begins = record { before = take place text; byte = get_or text place 0; text_behind = drop (suc place) text; is = whole_at text place inside; ends = ends; begins = begins }

-- the word begins where the filter begins to fit, behind a byte that is in no word
first_at : (token text : List ℕ) (place : ℕ) → 0 < length token → (0 < place → is_ascii_alphanumeric (get_or text (place - 1) 0) ≡ false) → Begins token (drop place text) → has_word (words_of text) token ≡ true
first_at token text zero some cut begins = begins_shown token text some begins
first_at token text (suc place) some cut begins =
    elim (cases_lt place (length text)) [
      | inl inside ↦ stands_shown token text some (stands_behind token text place inside (let one : suc place - 1 ≡ place = omega arith in subst (λ n. is_ascii_alphanumeric (get_or text n 0) ≡ false) one (cut (omega arith))) begins)
      | inr past ↦ absurd (not_at_end token some (subst (Begins token) (let none : drop (suc place) text ≡ [] = grind (arith, common_steps) in none) begins))
    ]

-- the filter fits from a place behind a byte that is in no word
fits_shown : (ends fold : Bool) (before token behind text : List ℕ) (place : ℕ) → (0 < place → is_ascii_alphanumeric (get_or text (place - 1) 0) ≡ false) → is_firm_behind ends behind ≡ true → 0 < length token → AreWord token → is_firm_left true before ≡ true → fits_at ends fold (before ++ (token ++ behind)) (drop place text) ≡ true → has_word (words_of text) token ≡ true
fits_shown ends fold [] token behind text place cut right some word left fit = first_at token text place some cut (front ends fold token behind (drop place text) word right fit)
fits_shown ends fold (c ∷ before) token behind text place cut right some word left fit =
    let s : Stands token (drop place text) = stands ends fold (c ∷ before) token behind (drop place text) left some word right fit in
    stands_shown token text some (subst (Stands token) (take-append-drop place text) (stands_in_whole token (take place text) (drop place text) s))

dot_cut : (text : List ℕ) (host : Span) (place : ℕ) → follows_dot text host place ≡ true → is_ascii_alphanumeric (get_or text (place - 1) 0) ≡ false
dot_cut text host place dot =
    let is : get_or text (place - 1) 0 ≡ 46 = eqb-true (get_or text (place - 1) 0) 46 (and_parts (nat_lt host.start place) (get_or text (place - 1) 0 == 46) dot).1 in
    ap is_ascii_alphanumeric is

-- a firm word of a body, by where the anchor lets it begin to fit
word_shown : (anchor : Anchor) (ends fold : Bool) (before token behind text : List ℕ) (host : Span) → IsHostCut text host → is_firm_left (is_anchored anchor) before ≡ true → is_firm_behind ends behind ≡ true → 0 < length token → AreWord token → fits_from anchor ends fold (before ++ (token ++ behind)) text host ≡ true → has_word (words_of text) token ≡ true
word_shown anywhere ends fold [] token behind text host cut left right some word fit = absurd (false≢true left)
word_shown anywhere ends fold (c ∷ before) token behind text host cut left right some word fit =
    stands_shown token text some (behind_star (fits_at ends fold ((c ∷ before) ++ (token ++ behind))) token text (λ rest h. stands ends fold (c ∷ before) token behind rest left some word right h) fit)
word_shown begin ends fold before token behind text host cut left right some word fit =
    fits_shown ends fold before token behind text 0 (λ some. absurd (omega arith)) right some word left fit
word_shown domain ends fold before token behind text host cut left right some word fit =
    elim (or_cases (fits_at ends fold (before ++ (token ++ behind)) (drop host.start text)) (some_below (λ place. follows_dot text host place && fits_at ends fold (before ++ (token ++ behind)) (drop place text)) host.end) fit) [
      | inl here ↦ fits_shown ends fold before token behind text host.start cut right some word left here
      | inr dot ↦
          let place = some_place (λ place. follows_dot text host place && fits_at ends fold (before ++ (token ++ behind)) (drop place text)) host.end dot in
          let both = and_parts (follows_dot text host place.0) (fits_at ends fold (before ++ (token ++ behind)) (drop place.0 text)) place.1 in
          fits_shown ends fold before token behind text place.0 (λ _. dot_cut text host place.0 both.0) right some word left both.1
    ]

pub firm_words_are_shown : FirmWordsAreShown
firm_words_are_shown pattern text host fold cut fit =
    let filter = filter_of pattern in
    All-weaker (IsFirmWord (is_anchored filter.anchor) filter.ends filter.body) (λ word. has_word (words_of text) word ≡ true)
    (λ word firm. word_shown filter.anchor filter.ends fold firm.before word firm.behind text host cut firm.begins firm.ends_so firm.some firm.whole
    (subst (λ body. fits_from filter.anchor filter.ends fold body text host ≡ true) firm.is fit))
    (words_of_filter filter) (firm_words_are (is_anchored filter.anchor) filter.ends filter.body)
