-- The tables of a list, as they are built, and the places of its other rules.
use Rattle.std.proofs.Common.{◌≡◌, ℕ, ◌+◌, ◌<◌, ◌≤◌, max, List, [], ◌∷◌, ◌++◌, length, get_or, take, drop, Bool, true, false, Option, Some, None, not, ◌&&◌, ◌||◌, cond, suc, zero, String, refl, sym, ap, ◌∙◌, length-append, arith}
use Rattle.std.proofs.lemmas.Grind.{take_at_read}
use Rattle.std.specs.Prelude.{slice_get}
use Rattle.std.specs.List.{list_any, filter}
use Rattle.std.specs.Str.{bytes_eq}
use Rattle.std.specs.HashSet.{HashSet, contains_text}
use Rattle.std.proofs.lemmas.List.{append_assoc, take_all}
use Rattle.std.proofs.lemmas.List.Folds.{list_any-append}
use Rattle.suffix_list.specs.declared.rule.Rule.{Rule}
use Rattle.suffix_list.proofs.Rules.{plain_is_apart}
use Rattle.suffix_list.specs.Kept.{AreTables, text_of, labels, is_plain, is_starred, is_other, most, places_from, rules_at, with_rule}

or_false : (b : Bool) → (b || false) ≡ b
or_false true = refl
or_false false = refl

or_swap : (a b : Bool) → (a || b) ≡ (b || a)
or_swap true true = refl
or_swap true false = refl
or_swap false true = refl
or_swap false false = refl

-- ---- one rule more

any_more : (test : Rule → Bool) (rules : List Rule) (rule : Rule) → list_any test (rules ++ rule ∷ []) ≡ (test rule || list_any test rules)
any_more test rules rule = list_any-append test rules (rule ∷ []) ∙ ap (λ b. list_any test rules || b) (or_false (test rule)) ∙ or_swap (list_any test rules) (test rule)

places-more : (test : Rule → Bool) (place : ℕ) (rules : List Rule) (rule : Rule) → places_from test place (rules ++ rule ∷ []) ≡ places_from test place rules ++ cond (test rule) ((place + length rules) ∷ []) []
places-more test place [] rule = elim (test rule) as (λ v. cond v (place ∷ []) [] ≡ cond v ((place + 0) ∷ []) []) [ true ↦ ap (λ (n : ℕ). n ∷ []) (omega arith) | false ↦ refl ]
places-more test place (first ∷ rules) rule =
    let rest : places_from test (place + 1) (rules ++ rule ∷ []) ≡ places_from test (place + 1) rules ++ cond (test rule) ((place + 1 + length rules) ∷ []) [] = places-more test (place + 1) rules rule in
    let same : place + 1 + length rules ≡ place + suc (length rules) = omega arith in
    let whole : places_from test (place + 1) (rules ++ rule ∷ []) ≡ places_from test (place + 1) rules ++ cond (test rule) ((place + suc (length rules)) ∷ []) [] = rest ∙ ap (λ (n : ℕ). places_from test (place + 1) rules ++ cond (test rule) (n ∷ []) []) same in
    elim (test first) as (λ v. cond v (place ∷ places_from test (place + 1) (rules ++ rule ∷ [])) (places_from test (place + 1) (rules ++ rule ∷ [])) ≡ cond v (place ∷ places_from test (place + 1) rules) (places_from test (place + 1) rules) ++ cond (test rule) ((place + suc (length rules)) ∷ []) [])
    [ true ↦ ap (λ (ns : List ℕ). place ∷ ns) whole | false ↦ whole ]

other_plain : (rule : Rule) → is_plain rule ≡ true → is_other rule ≡ false
other_plain rule h = ap (λ b. not (b || is_starred rule)) h

other_starred : (rule : Rule) → is_plain rule ≡ false → is_starred rule ≡ true → is_other rule ≡ false
other_starred rule h k = ap (λ b. not (b || is_starred rule)) h ∙ ap (λ b. not (false || b)) k

other_rest : (rule : Rule) → is_plain rule ≡ false → is_starred rule ≡ false → is_other rule ≡ true
other_rest rule h k = ap (λ b. not (b || is_starred rule)) h ∙ ap (λ b. not (false || b)) k

append_nil' : (ns : List ℕ) → ns ++ [] ≡ ns
append_nil' [] = refl
append_nil' (n ∷ ns) = ap (λ (ms : List ℕ). n ∷ ms) (append_nil' ns)

pub tables_plain : {Y S : Type 0} (rules : List Rule) (plain starred next : HashSet (String Y) S) (others : List ℕ) (rule : Rule) → AreTables rules plain starred others → is_plain rule ≡ true → ((q : List ℕ) → contains_text next q ≡ (bytes_eq (text_of rule) q || contains_text plain q)) → AreTables (rules ++ rule ∷ []) next starred others
tables_plain rules plain starred next others rule t h k = record {
  plain_texts = λ q. k q ∙ ap (λ b. bytes_eq (text_of rule) q || b) (t.plain_texts q) ∙ sym (ap (λ b. (b && bytes_eq (text_of rule) q) || list_any (λ rule. is_plain rule && bytes_eq (text_of rule) q) rules) h) ∙ sym (any_more (λ rule. is_plain rule && bytes_eq (text_of rule) q) rules rule);
  starred_texts = λ q. t.starred_texts q ∙ sym (ap (λ b. (b && bytes_eq (drop 2 (text_of rule)) q) || list_any (λ rule. is_starred rule && bytes_eq (drop 2 (text_of rule)) q) rules) (plain_is_apart rule h)) ∙ sym (any_more (λ rule. is_starred rule && bytes_eq (drop 2 (text_of rule)) q) rules rule);
  other_places = t.other_places ∙ sym (append_nil' (places_from is_other 0 rules)) ∙ sym (ap (λ b. places_from is_other 0 rules ++ cond b ((0 + length rules) ∷ []) []) (other_plain rule h)) ∙ sym (places-more is_other 0 rules rule);
}

pub tables_starred : {Y S : Type 0} (rules : List Rule) (plain starred next : HashSet (String Y) S) (others : List ℕ) (rule : Rule) → AreTables rules plain starred others → is_plain rule ≡ false → is_starred rule ≡ true → ((q : List ℕ) → contains_text next q ≡ (bytes_eq (drop 2 (text_of rule)) q || contains_text starred q)) → AreTables (rules ++ rule ∷ []) plain next others
tables_starred rules plain starred next others rule t h s k = record {
  plain_texts = λ q. t.plain_texts q ∙ sym (ap (λ b. (b && bytes_eq (text_of rule) q) || list_any (λ rule. is_plain rule && bytes_eq (text_of rule) q) rules) h) ∙ sym (any_more (λ rule. is_plain rule && bytes_eq (text_of rule) q) rules rule);
  starred_texts = λ q. k q ∙ ap (λ b. bytes_eq (drop 2 (text_of rule)) q || b) (t.starred_texts q) ∙ sym (ap (λ b. (b && bytes_eq (drop 2 (text_of rule)) q) || list_any (λ rule. is_starred rule && bytes_eq (drop 2 (text_of rule)) q) rules) s) ∙ sym (any_more (λ rule. is_starred rule && bytes_eq (drop 2 (text_of rule)) q) rules rule);
  other_places = t.other_places ∙ sym (append_nil' (places_from is_other 0 rules)) ∙ sym (ap (λ b. places_from is_other 0 rules ++ cond b ((0 + length rules) ∷ []) []) (other_starred rule h s)) ∙ sym (places-more is_other 0 rules rule);
}

pub tables_other : {Y S : Type 0} (rules : List Rule) (plain starred : HashSet (String Y) S) (others : List ℕ) (rule : Rule) (place : ℕ) → AreTables rules plain starred others → is_plain rule ≡ false → is_starred rule ≡ false → place ≡ length rules → AreTables (rules ++ rule ∷ []) plain starred (others ++ place ∷ [])
tables_other rules plain starred others rule place t h s at =
    let at_end : 0 + length rules ≡ place = omega arith in
    record {
      plain_texts = λ q. t.plain_texts q ∙ sym (ap (λ b. (b && bytes_eq (text_of rule) q) || list_any (λ rule. is_plain rule && bytes_eq (text_of rule) q) rules) h) ∙ sym (any_more (λ rule. is_plain rule && bytes_eq (text_of rule) q) rules rule);
      starred_texts = λ q. t.starred_texts q ∙ sym (ap (λ b. (b && bytes_eq (drop 2 (text_of rule)) q) || list_any (λ rule. is_starred rule && bytes_eq (drop 2 (text_of rule)) q) rules) s) ∙ sym (any_more (λ rule. is_starred rule && bytes_eq (drop 2 (text_of rule)) q) rules rule);
      other_places = ap (λ (ns : List ℕ). ns ++ place ∷ []) t.other_places ∙ sym (ap (λ (n : ℕ). places_from is_other 0 rules ++ n ∷ []) at_end) ∙ sym (ap (λ b. places_from is_other 0 rules ++ cond b ((0 + length rules) ∷ []) []) (other_rest rule h s)) ∙ sym (places-more is_other 0 rules rule);
    }

-- ---- the rules at the places

below_first : (ns : List ℕ) (place len k : ℕ) → ((j : ℕ) → j < length ns → get_or ns j 0 < place + 1 + len) → k < length (place ∷ ns) → get_or (place ∷ ns) k 0 < place + suc len
below_first ns place len zero below h = omega arith
below_first ns place len (suc k) below h = let rest : get_or ns k 0 < place + 1 + len = below k (omega arith) in omega arith

pub places-below : (test : Rule → Bool) (place : ℕ) (rules : List Rule) (k : ℕ) → k < length (places_from test place rules) → get_or (places_from test place rules) k 0 < place + length rules
places-below test place [] k h = absurd (omega arith)
places-below test place (rule ∷ rules) k h =
    elim (test rule) as (λ v. k < length (cond v (place ∷ places_from test (place + 1) rules) (places_from test (place + 1) rules)) → get_or (cond v (place ∷ places_from test (place + 1) rules) (places_from test (place + 1) rules)) k 0 < place + suc (length rules)) [
      | true ↦ below_first (places_from test (place + 1) rules) place (length rules) k (λ j l. places-below test (place + 1) rules j l)
      | false ↦ λ l. (let rest = places-below test (place + 1) rules k l in omega arith)
    ] h

at_end : (before rules : List Rule) (rule : Rule) → slice_get (before ++ rule ∷ rules) (length before) ≡ Some rule
at_end [] rules rule = refl
at_end (first ∷ before) rules rule = at_end before rules rule

-- the rules at the places of those that pass, where others stand before them
pub at_places : (test : Rule → Bool) (before rules : List Rule) (place : ℕ) → place ≡ length before → rules_at (before ++ rules) (places_from test place rules) ≡ filter test rules
at_places test before [] place at = refl
at_places test before (rule ∷ rules) place at =
    let all : (before ++ rule ∷ []) ++ rules ≡ before ++ rule ∷ rules = append_assoc before (rule ∷ []) rules in
    let next : place + 1 ≡ length (before ++ rule ∷ []) = omega (arith, length-append {A = Rule}) in
    let rest : rules_at ((before ++ rule ∷ []) ++ rules) (places_from test (place + 1) rules) ≡ filter test rules = at_places test (before ++ rule ∷ []) rules (place + 1) next in
    let here : slice_get (before ++ rule ∷ rules) place ≡ Some rule = ap (λ n. slice_get (before ++ rule ∷ rules) n) at ∙ at_end before rules rule in
    let more : rules_at (before ++ rule ∷ rules) (places_from test (place + 1) rules) ≡ filter test rules = ap (λ (rs : List Rule). rules_at rs (places_from test (place + 1) rules)) (sym all) ∙ rest in
    elim (test rule) as (λ v. rules_at (before ++ rule ∷ rules) (cond v (place ∷ places_from test (place + 1) rules) (places_from test (place + 1) rules)) ≡ cond v (rule ∷ filter test rules) (filter test rules)) [
      | true ↦ ap (λ o. with_rule o (rules_at (before ++ rule ∷ rules) (places_from test (place + 1) rules))) here ∙ ap (λ (rs : List Rule). rule ∷ rs) more
      | false ↦ more
    ]

with_rule-append : (found : Option Rule) (rules more : List Rule) → with_rule found (rules ++ more) ≡ with_rule found rules ++ more
with_rule-append None rules more = refl
with_rule-append (Some rule) rules more = refl

rules_at-append : (rules : List Rule) (places more : List ℕ) → rules_at rules (places ++ more) ≡ rules_at rules places ++ rules_at rules more
rules_at-append rules [] more = refl
rules_at-append rules (place ∷ places) more =
    ap (with_rule (slice_get rules place)) (rules_at-append rules places more)
    ∙ with_rule-append (slice_get rules place) (rules_at rules places) (rules_at rules more)

-- ---- the longest rule of some

pub most-more : (test : Rule → Bool) (rules : List Rule) (rule : Rule) → most test (rules ++ rule ∷ []) ≡ cond (test rule) (max (length (labels rule)) (most test rules)) (most test rules)
most-more test [] rule = refl
most-more test (first ∷ rules) rule =
    let rest : most test (rules ++ rule ∷ []) ≡ cond (test rule) (max (length (labels rule)) (most test rules)) (most test rules) = most-more test rules rule in
    elim (test rule) as (λ w. most test (rules ++ rule ∷ []) ≡ cond w (max (length (labels rule)) (most test rules)) (most test rules) → cond (test first) (max (length (labels first)) (most test (rules ++ rule ∷ []))) (most test (rules ++ rule ∷ [])) ≡ cond w (max (length (labels rule)) (cond (test first) (max (length (labels first)) (most test rules)) (most test rules))) (cond (test first) (max (length (labels first)) (most test rules)) (most test rules))) [
      | true ↦ λ e. elim (test first) as (λ v. cond v (max (length (labels first)) (most test (rules ++ rule ∷ []))) (most test (rules ++ rule ∷ [])) ≡ max (length (labels rule)) (cond v (max (length (labels first)) (most test rules)) (most test rules))) [ true ↦ omega arith | false ↦ e ]
      | false ↦ λ e. ap (λ n. cond (test first) (max (length (labels first)) n) n) e
    ] rest

pub most-filter : (pass test : Rule → Bool) (rules : List Rule) → most test (filter pass rules) ≡ most (λ rule. pass rule && test rule) rules
most-filter pass test [] = refl
most-filter pass test (rule ∷ rules) =
    let rest : most test (filter pass rules) ≡ most (λ rule. pass rule && test rule) rules = most-filter pass test rules in
    elim (pass rule) as (λ v. most test (cond v (rule ∷ filter pass rules) (filter pass rules)) ≡ cond (v && test rule) (max (length (labels rule)) (most (λ rule. pass rule && test rule) rules)) (most (λ rule. pass rule && test rule) rules))
    [ true ↦ ap (λ n. cond (test rule) (max (length (labels rule)) n) n) rest | false ↦ rest ]

max_if : (b : Bool) (len n : ℕ) → max (cond b len 0) n ≡ cond b (max len n) n
max_if true len n = refl
max_if false len n = omega arith

-- one place more
pub longest_step : (test : Rule → Bool) (rules : List Rule) (others : List ℕ) (k : ℕ) (rule : Rule) (n : ℕ) → k < length others → slice_get rules (get_or others k 0) ≡ Some rule → n ≡ most test (rules_at rules (take k others)) → max (cond (test rule) (length (labels rule)) 0) n ≡ most test (rules_at rules (take (k + 1) others))
longest_step test rules others k rule n within here so_far =
    let cut : take (k + 1) others ≡ take k others ++ get_or others k 0 ∷ [] = (take_at_read others k 0 within).1 in
    let at : rules_at rules (take (k + 1) others) ≡ rules_at rules (take k others) ++ rule ∷ [] = ap (rules_at rules) cut ∙ rules_at-append rules (take k others) (get_or others k 0 ∷ []) ∙ ap (λ o. rules_at rules (take k others) ++ with_rule o []) here in
    max_if (test rule) (length (labels rule)) n
    ∙ ap (λ m. cond (test rule) (max (length (labels rule)) m) m) so_far
    ∙ sym (most-more test (rules_at rules (take k others)) rule)
    ∙ ap (most test) (sym at)

pub longest_end : (test : Rule → Bool) (rules : List Rule) (others : List ℕ) (k n : ℕ) → others ≡ places_from is_other 0 rules → length others ≤ k → n ≡ most test (rules_at rules (take k others)) → n ≡ most (λ rule. is_other rule && test rule) rules
longest_end test rules others k n at end so_far =
    so_far
    ∙ ap (λ ns. most test (rules_at rules ns)) (take_all k others end ∙ at)
    ∙ ap (most test) (at_places is_other [] rules 0 refl)
    ∙ most-filter is_other test rules
