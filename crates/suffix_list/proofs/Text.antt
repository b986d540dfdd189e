-- The rules of the lines that were read so far.
use Rattle.std.proofs.Common.{◌≡◌, ℕ, ◌+◌, ◌<◌, ◌≤◌, List, [], ◌∷◌, ◌++◌, length, get_or, drop, Bool, true, false, cond, Option, Some, None, Result, Ok, Err, MatchBool, suc, refl, sym, ap, ◌∙◌, length-append, drop-cons, add-one, eqb, arith}
use Rattle.std.specs.Prelude.{nat_le}
use Rattle.std.specs.List.{slice_split}
use Rattle.std.proofs.Math.Seq.{drop-length}
use Rattle.std.proofs.lemmas.Bool.{cond-true, cond-false, le-leb, lt-leb}
use Rattle.std.proofs.lemmas.List.{append_assoc, append-nil}
use Rattle.dnr_spec.specs.Suffixes.{SuffixRule, is_rule, word_of, read_rule, with_rule, rules_of, within_limit, max_rules}
use Rattle.dnr_spec.specs.declared.suffix_refusal.SuffixRefusal.{SuffixRefusal}
use Rattle.dnr_spec.specs.declared.suffix_refusal.SuffixRefusal.TheVariants.{NotUtf8, BadRule, TooManyRules, NoMemory}
use Rattle.suffix_list.specs.Reading.{read_line, line_answer, read_text, IsRefusedAs}

-- the rules before those of the result
abbrev pub before_all : List SuffixRule → Result (List SuffixRule) SuffixRefusal → Result (List SuffixRule) SuffixRefusal
before_all rules (Ok more) = Ok (rules ++ more)
before_all rules (Err refusal) = Err refusal

-- what was read of the lines before this place: these rules, of which the first are kept
pub record IsReadSoFar (lines : List (List ℕ)) (place : ℕ) (too_many : Bool) (kept : List SuffixRule) : Type 0 where
  pub rules : List SuffixRule
  pub read : rules_of 1 lines ≡ before_all rules (rules_of (place + 1) (drop place lines))
  pub limit : MatchBool too_many (65536 < length rules) ((length rules ≤ 65536) × (rules ≡ kept))

before_nothing : (result : Result (List SuffixRule) SuffixRefusal) → result ≡ before_all [] result
before_nothing (Ok rules) = refl
before_nothing (Err refusal) = refl

pub so_far_init : (lines : List (List ℕ)) → IsReadSoFar lines 0 false []
so_far_init lines = record { rules = []; read = before_nothing (rules_of 1 lines); limit = (omega arith, refl) }

-- ---- one line

nothing_by : (number : ℕ) (found : Bool) (rule : Option SuffixRule) (rest : Result (List SuffixRule) SuffixRefusal) → line_answer number rule found ≡ Ok None → cond found (with_rule number rule rest) rest ≡ rest
nothing_by number false rule rest h = refl
nothing_by number true None rest h = absurd (cc)
nothing_by number true (Some rule) rest h = absurd (cc)

with_one : (number : ℕ) (rule : SuffixRule) (rest : Result (List SuffixRule) SuffixRefusal) → with_rule number (Some rule) rest ≡ before_all (rule ∷ []) rest
with_one number rule (Ok rules) = refl
with_one number rule (Err refusal) = refl

one_by : (number : ℕ) (found : Bool) (read : Option SuffixRule) (rule : SuffixRule) (rest : Result (List SuffixRule) SuffixRefusal) → line_answer number read found ≡ Ok (Some rule) → cond found (with_rule number read rest) rest ≡ before_all (rule ∷ []) rest
one_by number false read rule rest h = absurd (cc)
one_by number true None rule rest h = absurd (cc)
one_by number true (Some read) rule rest h = let same : read ≡ rule = cc in ap (λ r. with_rule number (Some r) rest) same ∙ with_one number rule rest

refused_by : (number : ℕ) (found : Bool) (read : Option SuffixRule) (refusal : SuffixRefusal) (rest : Result (List SuffixRule) SuffixRefusal) → line_answer number read found ≡ Err refusal → cond found (with_rule number read rest) rest ≡ Err refusal
refused_by number false read refusal rest h = absurd (cc)
refused_by number true None refusal rest h = let same : BadRule number ≡ refusal = cc in ap (λ r. Err r) same
refused_by number true (Some read) refusal rest h = absurd (cc)

line_nothing : (number : ℕ) (line : List ℕ) (lines : List (List ℕ)) → read_line number line ≡ Ok None → rules_of number (line ∷ lines) ≡ rules_of (number + 1) lines
unfolding read_line
line_nothing number line lines h = nothing_by number (is_rule (word_of line)) (read_rule (word_of line)) (rules_of (number + 1) lines) h

line_one : (number : ℕ) (line : List ℕ) (rule : SuffixRule) (lines : List (List ℕ)) → read_line number line ≡ Ok (Some rule) → rules_of number (line ∷ lines) ≡ before_all (rule ∷ []) (rules_of (number + 1) lines)
unfolding read_line
line_one number line rule lines h = one_by number (is_rule (word_of line)) (read_rule (word_of line)) rule (rules_of (number + 1) lines) h

line_refused : (number : ℕ) (line : List ℕ) (refusal : SuffixRefusal) (lines : List (List ℕ)) → read_line number line ≡ Err refusal → rules_of number (line ∷ lines) ≡ Err refusal
unfolding read_line
line_refused number line refusal lines h = refused_by number (is_rule (word_of line)) (read_rule (word_of line)) refusal (rules_of (number + 1) lines) h

-- ---- the lines from one on

-- this is the line at this place
pub record IsLineAt (lines : List (List ℕ)) (place : ℕ) (line : List ℕ) : Type 0 where
  pub within : place < length lines
  pub is : line ≡ get_or lines place line

at_line : (lines : List (List ℕ)) (place : ℕ) (line : List ℕ) → IsLineAt lines place line → drop place lines ≡ line ∷ drop (place + 1) lines
at_line lines place line at =
    let cut : drop place lines ≡ get_or lines place line ∷ drop (suc place) lines = drop-cons lines place line at.within in
    cut ∙ ap (λ l. l ∷ drop (suc place) lines) (sym at.is) ∙ ap (λ n. line ∷ drop n lines) (sym (add-one place))

pub so_far_same : (lines : List (List ℕ)) (place : ℕ) (too_many : Bool) (kept : List SuffixRule) (line : List ℕ) → IsReadSoFar lines place too_many kept → IsLineAt lines place line → read_line (place + 1) line ≡ Ok None → IsReadSoFar lines (place + 1) too_many kept
so_far_same lines place too_many kept line s at h = record {
  rules = s.rules;
  read = s.read ∙ ap (λ ls. before_all s.rules (rules_of (place + 1) ls)) (at_line lines place line at) ∙ ap (before_all s.rules) (line_nothing (place + 1) line (drop (place + 1) lines) h);
  limit = s.limit;
}

before_one : (rules : List SuffixRule) (rule : SuffixRule) (rest : Result (List SuffixRule) SuffixRefusal) → before_all rules (before_all (rule ∷ []) rest) ≡ before_all (rules ++ rule ∷ []) rest
before_one rules rule (Ok more) = ap (λ (rs : List SuffixRule). Ok rs) (sym (append_assoc rules (rule ∷ []) more))
before_one rules rule (Err refusal) = refl

read_one : (lines : List (List ℕ)) (place : ℕ) (too_many : Bool) (kept : List SuffixRule) (line : List ℕ) (rule : SuffixRule) → (s : IsReadSoFar lines place too_many kept) → IsLineAt lines place line → read_line (place + 1) line ≡ Ok (Some rule) → rules_of 1 lines ≡ before_all (s.rules ++ rule ∷ []) (rules_of (place + 1 + 1) (drop (place + 1) lines))
read_one lines place too_many kept line rule s at h =
    s.read ∙ ap (λ ls. before_all s.rules (rules_of (place + 1) ls)) (at_line lines place line at)
    ∙ ap (before_all s.rules) (line_one (place + 1) line rule (drop (place + 1) lines) h)
    ∙ before_one s.rules rule (rules_of (place + 1 + 1) (drop (place + 1) lines))

limit_push : (too_many : Bool) (rules kept : List SuffixRule) (rule : SuffixRule) → MatchBool too_many (65536 < length rules) ((length rules ≤ 65536) × (rules ≡ kept)) → length kept < 65536 → MatchBool too_many (65536 < length (rules ++ rule ∷ [])) ((length (rules ++ rule ∷ []) ≤ 65536) × (rules ++ rule ∷ [] ≡ kept ++ rule ∷ []))
limit_push true rules kept rule h small = omega (arith, length-append {A = SuffixRule})
limit_push false rules kept rule h small =
    let same : length rules ≡ length kept = ap (λ (rs : List SuffixRule). length rs) h.1 in
    (omega (arith, length-append {A = SuffixRule}), ap (λ (rs : List SuffixRule). rs ++ rule ∷ []) h.1)

pub so_far_push : (lines : List (List ℕ)) (place : ℕ) (too_many : Bool) (kept : List SuffixRule) (line : List ℕ) (rule : SuffixRule) → IsReadSoFar lines place too_many kept → IsLineAt lines place line → read_line (place + 1) line ≡ Ok (Some rule) → length kept < 65536 → IsReadSoFar lines (place + 1) too_many (kept ++ rule ∷ [])
so_far_push lines place too_many kept line rule s at h small = record {
  rules = s.rules ++ rule ∷ [];
  read = read_one lines place too_many kept line rule s at h;
  limit = limit_push too_many s.rules kept rule s.limit small;
}

limit_full : (too_many : Bool) (rules kept : List SuffixRule) (rule : SuffixRule) → MatchBool too_many (65536 < length rules) ((length rules ≤ 65536) × (rules ≡ kept)) → 65536 ≤ length kept → 65536 < length (rules ++ rule ∷ [])
limit_full true rules kept rule h full = omega (arith, length-append {A = SuffixRule})
limit_full false rules kept rule h full =
    let same : length rules ≡ length kept = ap (λ (rs : List SuffixRule). length rs) h.1 in
    omega (arith, length-append {A = SuffixRule})

pub so_far_full : (lines : List (List ℕ)) (place : ℕ) (too_many : Bool) (kept : List SuffixRule) (line : List ℕ) (rule : SuffixRule) → IsReadSoFar lines place too_many kept → IsLineAt lines place line → read_line (place + 1) line ≡ Ok (Some rule) → 65536 ≤ length kept → IsReadSoFar lines (place + 1) true kept
so_far_full lines place too_many kept line rule s at h full = record {
  rules = s.rules ++ rule ∷ [];
  read = read_one lines place too_many kept line rule s at h;
  limit = limit_full too_many s.rules kept rule s.limit full;
}

pub so_far_refused : (lines : List (List ℕ)) (place : ℕ) (too_many : Bool) (kept : List SuffixRule) (line : List ℕ) (refusal : SuffixRefusal) → IsReadSoFar lines place too_many kept → IsLineAt lines place line → read_line (place + 1) line ≡ Err refusal → rules_of 1 lines ≡ Err refusal
so_far_refused lines place too_many kept line refusal s at h =
    s.read ∙ ap (λ ls. before_all s.rules (rules_of (place + 1) ls)) (at_line lines place line at)
    ∙ ap (before_all s.rules) (line_refused (place + 1) line refusal (drop (place + 1) lines) h)

all_read : (lines : List (List ℕ)) (place : ℕ) (too_many : Bool) (kept : List SuffixRule) → (s : IsReadSoFar lines place too_many kept) → place ≡ length lines → rules_of 1 lines ≡ Ok s.rules
all_read lines place too_many kept s end =
    let none : drop place lines ≡ [] = ap (λ n. drop n lines) end ∙ drop-length lines in
    s.read ∙ ap (λ ls. before_all s.rules (rules_of (place + 1) ls)) none ∙ ap (λ (rs : List SuffixRule). Ok rs) (append-nil s.rules)

pub so_far_end : (lines : List (List ℕ)) (place : ℕ) (kept : List SuffixRule) → IsReadSoFar lines place false kept → place ≡ length lines → within_limit (rules_of 1 lines) ≡ Ok kept
so_far_end lines place kept s end =
    ap within_limit (all_read lines place false kept s end)
    ∙ cond-true (nat_le (length s.rules) max_rules) _ _ (le-leb (length s.rules) max_rules s.limit.0)
    ∙ ap (λ (rs : List SuffixRule). Ok rs) s.limit.1

pub so_far_too_many : (lines : List (List ℕ)) (place : ℕ) (kept : List SuffixRule) → IsReadSoFar lines place true kept → place ≡ length lines → within_limit (rules_of 1 lines) ≡ Err TooManyRules
so_far_too_many lines place kept s end =
    ap within_limit (all_read lines place true kept s end)
    ∙ cond-false (nat_le (length s.rules) max_rules) _ _ (lt-leb (length s.rules) max_rules s.limit)

-- a refusal handed on
pub refused_as : {T U : Type 0} (inner : Result T SuffixRefusal) (outer : Result U SuffixRefusal) (refusal : SuffixRefusal) → (inner ≡ Err refusal → outer ≡ Err refusal) → IsRefusedAs inner refusal → IsRefusedAs outer refusal
refused_as inner outer NotUtf8 h r = h r
refused_as inner outer (BadRule number) h r = h r
refused_as inner outer TooManyRules h r = h r
refused_as inner outer NoMemory h r = tt

pub text_of : (text : List ℕ) → read_text text ≡ within_limit (rules_of 1 (slice_split (λ b. eqb b 10) text))
unfolding read_text
text_of text = refl
