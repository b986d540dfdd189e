-- Rules that are walked piece by piece.
use Rattle.std.proofs.Common.{◌≡◌, ℕ, zero, suc, ◌+◌, ◌^◌, ◌<◌, ◌≤◌, List, [], ◌∷◌, ◌++◌, length, drop, get_or, Bool, true, false, ◌||◌, inl, inr, sym, ap, ◌∙◌, subst, arith}
use Rattle.std.specs.Prelude.{max}
use Rattle.std.specs.List.{flat_map, list_any}
use Rattle.std.proofs.lemmas.Bool.{cases_lt}
use Rattle.std.proofs.lemmas.List.{drop_more}
use Rattle.dnr_base.specs.declared.request.Request.{Request}
use Rattle.dnr_spec.specs.Suffixes.{SuffixRule}
use Rattle.index_spec.specs.Pairs.{pairs_of_rules}
use Rattle.rule_spec.specs.Rule.{Rule}
use Rattle.generation.specs.Plain.{are_plain, blocks, greatest, some_blocks}
use Rattle.rule_spec.specs.State.{Extension}
use Rattle.generation.proofs.Pairs.{rules_add}
use Rattle.generation.proofs.PlainRules.{both, plain_both}

pub greatest_add : (suffixes : List SuffixRule) (request : Request) (xs ys : List Rule) → greatest suffixes request (xs ++ ys) ≡ max (greatest suffixes request xs) (greatest suffixes request ys)
greatest_add suffixes request [] ys = omega arith
greatest_add suffixes request (x ∷ xs) ys = let more = greatest_add suffixes request xs ys in omega (arith, more)

module _ {X : Type 0} (rules : X → List Rule) where
  flat_step : (xs : List X) (i : ℕ) (x : X) → i < length xs → x ≡ get_or xs i x → flat_map rules (drop i xs) ≡ rules x ++ flat_map rules (drop (i + 1) xs)
  flat_step xs i x h is =
      ap (flat_map rules) (drop_more xs i x h) ∙ ap (λ y. rules y ++ flat_map rules (drop (i + 1) xs)) (sym is)

  pub piece_is_plain : (xs : List X) (i : ℕ) (x : X) → i < length xs → x ≡ get_or xs i x → are_plain (flat_map rules xs) ≡ true → are_plain (rules x) ≡ true
  piece_is_plain [] i x h is plain = absurd (omega (arith, h))
  piece_is_plain (y ∷ xs) zero x h is plain = ap (λ z. are_plain (rules z)) is ∙ (both (are_plain (rules y)) (are_plain (flat_map rules xs)) (sym (plain_both (rules y) (flat_map rules xs)) ∙ plain)).0
  piece_is_plain (y ∷ xs) (suc i) x h is plain =
      piece_is_plain xs i x (omega (arith, h)) is (both (are_plain (rules y)) (are_plain (flat_map rules xs)) (sym (plain_both (rules y) (flat_map rules xs)) ∙ plain)).1

  pub level_next : (suffixes : List SuffixRule) (request : Request) (xs : List X) (i : ℕ) (x : X) (best new total : ℕ) → i < length xs → x ≡ get_or xs i x
      → new ≡ max best (greatest suffixes request (rules x))
      → max best (greatest suffixes request (flat_map rules (drop i xs))) ≡ total
      → max new (greatest suffixes request (flat_map rules (drop (i + 1) xs))) ≡ total
  level_next suffixes request xs i x best new total h is told so_far =
      let cut = ap (greatest suffixes request) (flat_step xs i x h is) in
      let add = greatest_add suffixes request (rules x) (flat_map rules (drop (i + 1) xs)) in
      omega (arith, cut, add, told, so_far)

  pub pairs_next : (request : Request) (xs : List X) (i : ℕ) (x : X) (steps new total : ℕ) → i < length xs → x ≡ get_or xs i x
      → new ≤ steps + pairs_of_rules (rules x) request
      → steps + pairs_of_rules (flat_map rules (drop i xs)) request ≤ total
      → new + pairs_of_rules (flat_map rules (drop (i + 1) xs)) request ≤ total
  pairs_next request xs i x steps new total h is told so_far =
      let cut = ap (λ l. pairs_of_rules l request) (flat_step xs i x h is) in
      let add = rules_add (rules x) (flat_map rules (drop (i + 1) xs)) request in
      omega (arith, cut, add, told, so_far)

pub any_step : {X : Type 0} (test : X → Bool) (xs : List X) (i : ℕ) (x : X) → i < length xs → x ≡ get_or xs i x → list_any test (drop i xs) ≡ (test x || list_any test (drop (i + 1) xs))
any_step test xs i x h is = ap (list_any test) (drop_more xs i x h) ∙ ap (λ y. test y || list_any test (drop (i + 1) xs)) (sym is)

pub few_of_two : (a b n : ℕ) → 2 ^ a ≤ n → 2 ^ b ≤ n → 2 ^ (max a b) ≤ n
few_of_two a b n first second =
    elim (cases_lt a b) [
      | inl less ↦ let e : b ≡ max a b = omega (arith, less) in subst (λ (k : ℕ). 2 ^ k ≤ n) e second
      | inr more ↦ let e : a ≡ max a b = omega (arith, more) in subst (λ (k : ℕ). 2 ^ k ≤ n) e first
    ]

pub three_levels : (suffixes : List SuffixRule) (request : Request) (xs ys zs us vs ws : List Rule) (a b c : ℕ) → xs ≡ us → ys ≡ vs → zs ≡ ws
    → a ≡ max 0 (greatest suffixes request xs) → b ≡ max a (greatest suffixes request ys) → c ≡ max b (greatest suffixes request zs)
    → c ≡ greatest suffixes request (us ++ (vs ++ ws))
three_levels suffixes request xs ys zs us vs ws a b c x y z first second third =
    let first_add = greatest_add suffixes request us (vs ++ ws) in
    let second_add = greatest_add suffixes request vs ws in
    let x_is = ap (greatest suffixes request) x in
    let y_is = ap (greatest suffixes request) y in
    let z_is = ap (greatest suffixes request) z in
    omega (arith, first_add, second_add, x_is, y_is, z_is, first, second, third)

pub three_pairs : (request : Request) (xs ys zs us vs ws : List Rule) (n a b c : ℕ) → xs ≡ us → ys ≡ vs → zs ≡ ws
    → a ≤ n + pairs_of_rules xs request → b ≤ a + pairs_of_rules ys request → c ≤ b + pairs_of_rules zs request
    → c ≤ n + pairs_of_rules (us ++ (vs ++ ws)) request
three_pairs request xs ys zs us vs ws n a b c x y z first second third =
    let first_add = rules_add us (vs ++ ws) request in
    let second_add = rules_add vs ws request in
    let x_is = ap (λ l. pairs_of_rules l request) x in
    let y_is = ap (λ l. pairs_of_rules l request) y in
    let z_is = ap (λ l. pairs_of_rules l request) z in
    omega (arith, first_add, second_add, x_is, y_is, z_is, first, second, third)

-- where the next extension blocks nothing, those behind it tell
pub none_yet : (suffixes : List SuffixRule) (request : Request) (extensions : List Extension) (i : ℕ) (extension : Extension) (total : Bool) → i < length extensions → extension ≡ get_or extensions i extension
    → blocks suffixes request extension ≡ false → some_blocks suffixes request (drop i extensions) ≡ total
    → some_blocks suffixes request (drop (i + 1) extensions) ≡ total
none_yet suffixes request extensions i extension total h is fails so_far =
    sym (any_step (blocks suffixes request) extensions i extension h is ∙ ap (λ b. b || some_blocks suffixes request (drop (i + 1) extensions)) fails) ∙ so_far
