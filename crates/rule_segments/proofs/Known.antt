-- What is known of rules by their ids, in another order, says what the rules do.
use Rattle.std.proofs.Common.{◌≡◌, ℕ, ◌+◌, ℤ, pos, List, [], ◌∷◌, Bool, true, false, cond, ◌&&◌, ◌||◌, refl, sym, ap, ◌∙◌, map, length, sum_by, int_eq, arith}
use Rattle.std.specs.Prelude.{count_by, filter}
use Rattle.std.specs.List.{list_any}
use Rattle.std.specs.List.Sorted.{IsPermutation}
use Rattle.std.proofs.lemmas.List.Sums.{sum_by-cons, length-filter}
use Rattle.std.proofs.lemmas.List.{length-map}
use Rattle.std.proofs.lemmas.List.Sorted.{length_permutation, list_any-IsPermutation, sum_by-IsPermutation}
use Rattle.rule_spec.specs.Rule.{Rule}
use Rattle.update_spec.specs.Judge.{has_id}
use Rattle.rule_ids.specs.Counted.{counts_of, counts_among, has_known_id, known_of}
use Rattle.rule_ids.specs.declared.known_rule.KnownRule.{KnownRule}
use Rattle.rule_segments.specs.Segments.{of_id}

any_of : (p : KnownRule → Bool) (rules : List Rule) → list_any p (map known_of rules) ≡ list_any (λ rule. p (known_of rule)) rules
any_of p [] = refl
any_of p (rule ∷ rules) = ap (λ (b : Bool). p (known_of rule) || b) (any_of p rules)

any_known : (p : KnownRule → Bool) (rules : List Rule) (known : List KnownRule) → IsPermutation (map known_of rules) known
    → list_any p known ≡ list_any (λ rule. p (known_of rule)) rules
any_known p rules known same = sym (list_any-IsPermutation p (map known_of rules) known same) ∙ any_of p rules

pub has_known : (id : ℕ) (rules : List Rule) (known : List KnownRule) → IsPermutation (map known_of rules) known → list_any (has_known_id id) known ≡ has_id rules id
has_known id rules known same = any_known (has_known_id id) rules known same

pub has_known_whole : (id : ℤ) (rules : List Rule) (known : List KnownRule) → IsPermutation (map known_of rules) known
    → list_any (λ one. int_eq id (pos one.id)) known ≡ list_any (λ rule. int_eq id (pos rule.id)) rules
has_known_whole id rules known same = any_known (λ one. int_eq id (pos one.id)) rules known same

-- ---- what the rules of one id count for

sum_of_map : (f : KnownRule → ℕ) (rules : List Rule) → sum_by f (map known_of rules) ≡ sum_by (λ rule. f (known_of rule)) rules
sum_of_map f [] = refl
sum_of_map f (rule ∷ rules) =
    sum_by-cons f (known_of rule) (map known_of rules)
    ∙ ap (λ n. f (known_of rule) + n) (sum_of_map f rules)
    ∙ sym (sum_by-cons (λ rule. f (known_of rule)) rule rules)

zero_more : (n : ℕ) → n ≡ 0 + n
zero_more n = omega arith

step_both : {X : Type 0} (q : X → Bool) (b : Bool) (x : X) (kept : List X) → count_by q (cond b (x ∷ kept) kept) ≡ cond (b && q x) 1 0 + count_by q kept
step_both q true x kept = sum_by-cons (λ x. cond (q x) 1 0) x kept
step_both q false x kept = zero_more (count_by q kept)

count_both : {X : Type 0} (p q : X → Bool) (xs : List X) → count_by q (filter p xs) ≡ count_by (λ x. p x && q x) xs
count_both p q [] = refl
count_both p q (x ∷ xs) =
    step_both q (p x) x (filter p xs)
    ∙ ap (λ n. cond (p x && q x) 1 0 + n) (count_both p q xs)
    ∙ sym (sum_by-cons (λ x. cond (p x && q x) 1 0) x xs)

count_known : (p : KnownRule → Bool) (rules : List Rule) (known : List KnownRule) → IsPermutation (map known_of rules) known
    → count_by p known ≡ count_by (λ rule. p (known_of rule)) rules
count_known p rules known same =
    sum_by-IsPermutation (λ one. cond (p one) 1 0) (map known_of rules) known same ∙ sum_of_map (λ one. cond (p one) 1 0) rules

part_known : (p q : KnownRule → Bool) (rules : List Rule) (known : List KnownRule) → IsPermutation (map known_of rules) known
    → count_by q (filter p known) ≡ count_by (λ rule. q (known_of rule)) (filter (λ rule. p (known_of rule)) rules)
part_known p q rules known same =
    count_both p q known
    ∙ count_known (λ one. p one && q one) rules known same
    ∙ sym (count_both (λ (rule : Rule). p (known_of rule)) (λ rule. q (known_of rule)) rules)

length_known : (p : KnownRule → Bool) (rules : List Rule) (known : List KnownRule) → IsPermutation (map known_of rules) known
    → length (filter p known) ≡ length (filter (λ rule. p (known_of rule)) rules)
length_known p rules known same =
    length-filter p known ∙ count_known p rules known same ∙ sym (length-filter (λ (rule : Rule). p (known_of rule)) rules)

pub counts_known : (id : ℕ) (rules : List Rule) (known : List KnownRule) → IsPermutation (map known_of rules) known
    → counts_among (filter (has_known_id id) known) ≡ counts_of (of_id id rules)
counts_known id rules known same =
    rw (length_known (has_known_id id) rules known same, part_known (has_known_id id) (λ one. one.uses_regex) rules known same, part_known (has_known_id id) (λ one. one.is_unsafe) rules known same) refl

pub all_known : (rules : List Rule) (known : List KnownRule) → IsPermutation (map known_of rules) known → counts_among known ≡ counts_of rules
all_known rules known same =
    rw (length_permutation (map known_of rules) known same ∙ length-map rules known_of, count_known (λ one. one.uses_regex) rules known same, count_known (λ one. one.is_unsafe) rules known same) refl
