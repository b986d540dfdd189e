-- How many labels the public suffix has, by the longest rules of each kind.
use Rattle.std.proofs.Common.{◌≡◌, ℕ, ◌-◌, ◌<◌, ◌≤◌, max, List, [], ◌∷◌, length, map, Bool, true, false, not, ◌&&◌, ◌||◌, cond, suc, zero, refl, sym, ap, ◌∙◌, nat_eq, codes, drop, arith}
use Rattle.std.specs.Prelude.{nat_lt}
use Rattle.std.specs.List.{filter, starts_with}
use Rattle.std.proofs.lemmas.Bool.{cond-true, cond-false, lt-ltb, le-ltb}
use Rattle.dnr_spec.specs.Suffixes as spec
use Rattle.dnr_spec.specs.Suffixes.{SuffixRule, greatest, label_counts, suffix_count, suffix_len, matches}
use Rattle.dnr_spec.proofs.Labels.{labels_of-has}
use Rattle.suffix_list.specs.declared.rule.Rule.{Rule}
use Rattle.suffix_list.specs.Kept.{seen, text_of, labels, has_no_star, most, listed_len, is_matching_exception, is_matching_rule, other_exception_len, other_rule_len}

has_labels : (rule : Rule) → 0 < length (labels rule)
has_labels rule = let has = labels_of-has (text_of rule) in let len : length (labels rule) ≡ length (has.first ∷ has.rest) = ap (λ (ls : List (List ℕ)). length ls) has.is in omega arith

-- the counts of the rules that pass, and the greatest of them
greatest-most : (test : SuffixRule → Bool) (rules : List Rule) → greatest (label_counts (filter test (map seen rules))) ≡ most (λ rule. test (seen rule)) rules
greatest-most test [] = refl
greatest-most test (rule ∷ rules) =
    let rest : greatest (label_counts (filter test (map seen rules))) ≡ most (λ rule. test (seen rule)) rules = greatest-most test rules in
    elim (test (seen rule)) as (λ v. greatest (label_counts (cond v (seen rule ∷ filter test (map seen rules)) (filter test (map seen rules)))) ≡ cond v (max (length (labels rule)) (most (λ rule. test (seen rule)) rules)) (most (λ rule. test (seen rule)) rules))
    [ true ↦ ap (λ n. max (length (labels rule)) n) rest | false ↦ rest ]

some_more : (len rest count : ℕ) → 0 < len → nat_lt 0 (suc count) ≡ nat_lt 0 (max len rest)
some_more len rest count h = lt-ltb 0 (suc count) (omega arith) ∙ sym (lt-ltb 0 (max len rest) (omega arith))

some-most : (test : SuffixRule → Bool) (rules : List Rule) → nat_lt 0 (length (label_counts (filter test (map seen rules)))) ≡ nat_lt 0 (most (λ rule. test (seen rule)) rules)
some-most test [] = refl
some-most test (rule ∷ rules) =
    let rest : nat_lt 0 (length (label_counts (filter test (map seen rules)))) ≡ nat_lt 0 (most (λ rule. test (seen rule)) rules) = some-most test rules in
    let one : 0 < length (labels rule) = has_labels rule in
    elim (test (seen rule)) as (λ v. nat_lt 0 (length (label_counts (cond v (seen rule ∷ filter test (map seen rules)) (filter test (map seen rules))))) ≡ nat_lt 0 (cond v (max (length (labels rule)) (most (λ rule. test (seen rule)) rules)) (most (λ rule. test (seen rule)) rules)))
    [ true ↦ some_more (length (labels rule)) (most (λ rule. test (seen rule)) rules) (length (label_counts (filter test (map seen rules)))) one | false ↦ rest ]

-- the length by the longest exception and the longest other rule
abbrev pub len_by : ℕ → ℕ → ℕ
len_by exception other = cond (nat_lt 0 exception) (exception - 1) (max other 1)

at_least_one : (n : ℕ) → cond (nat_lt 0 n) n 1 ≡ max n 1
at_least_one zero = refl
at_least_one (suc n) =
    let same : suc n ≡ max (suc n) 1 = omega arith in
    ap (λ b. cond b (suc n) 1) (lt-ltb 0 (suc n) (omega arith)) ∙ same

suffix_len-by : (rules : List Rule) (name : List (List ℕ)) → suffix_len (map seen rules) name ≡ len_by (most (is_matching_exception name) rules) (most (is_matching_rule name) rules)
suffix_len-by rules name =
    let e : ℕ = most (is_matching_exception name) rules in
    let o : ℕ = most (is_matching_rule name) rules in
    let other : suffix_count [] (label_counts (filter (spec.is_matching_rule name) (map seen rules))) ≡ max o 1 =
    ap (λ b. cond b (greatest (label_counts (filter (spec.is_matching_rule name) (map seen rules)))) 1) (some-most (spec.is_matching_rule name) rules)
    ∙ ap (λ n. cond (nat_lt 0 o) n 1) (greatest-most (spec.is_matching_rule name) rules) ∙ at_least_one o in
    ap (λ b. cond b (greatest (label_counts (filter (spec.is_matching_exception name) (map seen rules))) - 1) (suffix_count [] (label_counts (filter (spec.is_matching_rule name) (map seen rules))))) (some-most (spec.is_matching_exception name) rules)
    ∙ ap (λ n. cond (nat_lt 0 e) (n - 1) (suffix_count [] (label_counts (filter (spec.is_matching_rule name) (map seen rules))))) (greatest-most (spec.is_matching_exception name) rules)
    ∙ ap (λ n. cond (nat_lt 0 e) (e - 1) n) other

-- ---- by where the rules are found

most-same : (f g : Rule → Bool) (rules : List Rule) → ((rule : Rule) → f rule ≡ g rule) → most f rules ≡ most g rules
most-same f g [] h = refl
most-same f g (rule ∷ rules) h =
    ap (λ n. cond (f rule) (max (length (labels rule)) n) n) (most-same f g rules h)
    ∙ ap (λ b. cond b (max (length (labels rule)) (most g rules)) (most g rules)) (h rule)

max_both : (a b : Bool) (len n m k : ℕ) → n ≡ max m k → cond (a || b) (max len n) n ≡ max (cond a (max len m) m) (cond b (max len k) k)
max_both true true len n m k h = omega arith
max_both true false len n m k h = omega arith
max_both false true len n m k h = omega arith
max_both false false len n m k h = h

most-or : (f g h : Rule → Bool) (rules : List Rule) → ((rule : Rule) → f rule ≡ (g rule || h rule)) → most f rules ≡ max (most g rules) (most h rules)
most-or f g h [] e = omega arith
most-or f g h (rule ∷ rules) e =
    ap (λ b. cond b (max (length (labels rule)) (most f rules)) (most f rules)) (e rule)
    ∙ max_both (g rule) (h rule) (length (labels rule)) (most f rules) (most g rules) (most h rules) (most-or f g h rules e)

and_none : (b : Bool) → (b && false) ≡ false
and_none true = refl
and_none false = refl

exception_is_other : (e p s m : Bool) → (not ((not e && p) || (not e && s)) && (e && m)) ≡ (e && m)
exception_is_other true p s m = refl
exception_is_other false p s m = and_none (not (p || s))

rule_is_somewhere : (e p s m : Bool) → (not e && m) ≡ ((not ((not e && p) || (not e && s)) && (not e && m)) || (((not e && p) || (not e && s)) && m))
rule_is_somewhere true p s m = refl
rule_is_somewhere false true s true = refl
rule_is_somewhere false true s false = refl
rule_is_somewhere false false true true = refl
rule_is_somewhere false false true false = refl
rule_is_somewhere false false false true = refl
rule_is_somewhere false false false false = refl

exceptions_are_others : (name : List (List ℕ)) (rules : List Rule) → other_exception_len name rules ≡ most (is_matching_exception name) rules
exceptions_are_others name rules = most-same _ _ rules (λ rule. exception_is_other rule.exception (has_no_star (text_of rule)) (starts_with nat_eq (text_of rule) (codes "*.") && has_no_star (drop 2 (text_of rule))) (matches (labels rule) name))

rules_are_somewhere : (name : List (List ℕ)) (rules : List Rule) → most (is_matching_rule name) rules ≡ max (other_rule_len name rules) (listed_len name rules)
rules_are_somewhere name rules = most-or (is_matching_rule name) _ _ rules (λ rule. rule_is_somewhere rule.exception (has_no_star (text_of rule)) (starts_with nat_eq (text_of rule) (codes "*.") && has_no_star (drop 2 (text_of rule))) (matches (labels rule) name))

pub suffix_len-found : (rules : List Rule) (name : List (List ℕ)) → suffix_len (map seen rules) name ≡ len_by (other_exception_len name rules) (max (other_rule_len name rules) (listed_len name rules))
suffix_len-found rules name =
    suffix_len-by rules name
    ∙ ap (λ n. len_by n (most (is_matching_rule name) rules)) (sym (exceptions_are_others name rules))
    ∙ ap (λ n. len_by (other_exception_len name rules) n) (rules_are_somewhere name rules)

-- ---- as they are counted

pub suffix_some : (rules : List Rule) (name : List (List ℕ)) (n : ℕ) → n ≡ other_exception_len name rules → 0 < n → n - 1 ≡ suffix_len (map seen rules) name
suffix_some rules name n e h = sym (suffix_len-found rules name ∙ ap (λ m. len_by m (max (other_rule_len name rules) (listed_len name rules))) (sym e) ∙ cond-true (nat_lt 0 n) (n - 1) _ (lt-ltb 0 n h))

pub suffix_none : (rules : List Rule) (name : List (List ℕ)) (n o l : ℕ) → n ≡ other_exception_len name rules → n ≤ 0 → o ≡ other_rule_len name rules → l ≡ listed_len name rules → max (max o l) 1 ≡ suffix_len (map seen rules) name
suffix_none rules name n o l e h f g =
    sym (suffix_len-found rules name ∙ ap (λ m. len_by m (max (other_rule_len name rules) (listed_len name rules))) (sym e)
    ∙ cond-false (nat_lt 0 n) (n - 1) (max (max (other_rule_len name rules) (listed_len name rules)) 1) (le-ltb 0 n h)
    ∙ ap (λ m. max (max m (listed_len name rules)) 1) (sym f) ∙ ap (λ m. max (max o m) 1) (sym g))
