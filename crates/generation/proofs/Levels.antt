-- Of a rule that decides inside an extension the level is the greatest of all.
use Rattle.std.proofs.Common.{◌≡◌, ◌⊎◌, ℕ, ◌+◌, ◌*◌, ◌-◌, ◌≤◌, List, [], ◌∷◌, Bool, true, false, not, ◌&&◌, ◌==◌, cond, fold, filter, inl, inr, ⊎_elim, Option, Some, None, is_some, option_map, refl, sym, ap, ◌∙◌, arith}
use Rattle.std.specs.Prelude.{max}
use Rattle.std.specs.List.{cons_option, filter_map}
use Rattle.std.proofs.lemmas.Bool.{cases_Bool, cond-true, cond-false}
use Rattle.std.proofs.lemmas.Bool.Decides.{nat_tests}
use Rattle.dnr_base.specs.declared.candidate.Candidate.{Candidate}
use Rattle.dnr_base.specs.declared.request.Request.{Request}
use Rattle.dnr_base.specs.declared.verb.Verb.{Verb}
use Rattle.dnr_base.specs.declared.verb.Verb.TheVariants as verb
use Rattle.dnr_base.specs.View.{View}
use Rattle.dnr_spec.specs.Order.{beats, is_before, place_of, rank_of}
use Rattle.dnr_spec.specs.Suffixes.{SuffixRule}
use Rattle.precedence.proofs.Orders.{before_true}
use Rattle.rule_spec.specs.Access.{has_access}
use Rattle.rule_spec.specs.Reaches.{reach_of}
use Rattle.rule_spec.specs.Rule.{Action, Rule, block, redirect, allow, upgrade_scheme, modify_headers, allow_all_requests, verb_of}
use Rattle.rule_spec.specs.Scan.{candidate_of, candidates, deciding_of, is_candidate, may_act, winner_of}
use Rattle.rule_spec.specs.State.{Extension, Live, live_rules}
use Rattle.generation.specs.Kept.{better_of}
use Rattle.generation.specs.Plain.{are_plain, blocks, blocks_by, decides_block, greatest, is_block, is_plain_rule, is_redirect, level, level_by, level_in, level_of, may_decide, rules_by, rules_of}
use Rattle.generation.proofs.Best.{candidates_are_ordered, unbeaten_is}
use Rattle.generation.proofs.PlainRules.{both, rules_are}

place_small : (v : Verb) → place_of v ≤ 4
place_small verb.Allow = omega arith
place_small verb.AllowAllRequests = omega arith
place_small verb.Block = omega arith
place_small verb.UpgradeScheme = omega arith
place_small verb.Redirect = omega arith

-- ---- who beats another is no weaker

before_up : (x y u v : ℕ) (rest : List (ℕ × ℕ)) → u ≤ 4 → v ≤ 4 → is_before ((x, y) ∷ (u, v) ∷ rest) ≡ true → 5 * x + (5 - v) ≤ 5 * y + (5 - u)
before_up x y u v rest small other h =
    ⊎_elim
    (λ less. omega arith)
    (λ more. ⊎_elim (λ less. let same = more.0 in omega arith) (λ alike. let same = more.0 in let equal = alike.0 in omega arith) more.1)
    (before_true ((x, y) ∷ (u, v) ∷ rest) h)

before_down : (x y u v : ℕ) (rest : List (ℕ × ℕ)) → u ≤ 4 → v ≤ 4 → is_before ((x, y) ∷ (u, v) ∷ rest) ≡ false → 5 * y + (5 - u) ≤ 5 * x + (5 - v)
before_down x y u v rest small other h =
    grind (arith, nat_tests)

pub beats_up : (a b : Candidate) → beats a b ≡ true → level_of b.priority b.action ≤ level_of a.priority a.action
beats_up a b h =
    before_up b.priority a.priority (place_of a.action) (place_of b.action) ((rank_of a.rank, rank_of b.rank) ∷ (a.id, b.id) ∷ []) (place_small a.action) (place_small b.action) h

pub beats_down : (a b : Candidate) → beats a b ≡ false → level_of a.priority a.action ≤ level_of b.priority b.action
beats_down a b h =
    before_down b.priority a.priority (place_of a.action) (place_of b.action) ((rank_of a.rank, rank_of b.rank) ∷ (a.id, b.id) ∷ []) (place_small a.action) (place_small b.action) h

-- ---- the one that decides

abbrev level_found : Option (Live × Candidate) → ℕ
level_found None = 0
level_found (Some one) = level_of one.1.priority one.1.action

abbrev levels : List (Live × Candidate) → ℕ
levels [] = 0
levels (one ∷ list) = max (level_of one.1.priority one.1.action) (levels list)

abbrev is_better : Live × Candidate → Live × Candidate → Bool
is_better a b = beats a.1 b.1

better_level : (best : Option (Live × Candidate)) (next : Live × Candidate) → level_found (better_of is_better best next) ≡ max (level_found best) (level_of next.1.priority next.1.action)
better_level None next = omega arith
better_level (Some best) next =
    elim (cases_Bool (beats next.1 best.1)) [
      | inl wins ↦
          let up = beats_up next.1 best.1 wins in
          ap level_found (cond-true (beats next.1 best.1) (Some next) (Some best) wins) ∙ omega (arith, up)
      | inr loses ↦
          let down = beats_down next.1 best.1 loses in
          ap level_found (cond-false (beats next.1 best.1) (Some next) (Some best) loses) ∙ omega (arith, down)
    ]

max_three : (a b c : ℕ) → max (max a b) c ≡ max a (max b c)
max_three a b c = omega arith

best_level : (list : List (Live × Candidate)) (best : Option (Live × Candidate)) → level_found (fold (better_of is_better) best list) ≡ max (level_found best) (levels list)
best_level [] best = omega arith
best_level (next ∷ list) best =
    best_level list (better_of is_better best next)
    ∙ ap (λ n. max n (levels list)) (better_level best next)
    ∙ max_three (level_found best) (level_of next.1.priority next.1.action) (levels list)

-- ---- candidates

-- a plain rule gives no verdict, or may decide where it may act
same_act : (name : List ℕ) (access : Bool) (rule : Rule) (view : View) (action : Action) → not (is_redirect action) ≡ true
    → (verb_of action ≡ None) ⊎ (may_act name access rule action view ≡ may_decide action view)
same_act name access rule view block h = inr refl
same_act name access rule view (redirect target) h = cc
same_act name access rule view allow h = inr refl
same_act name access rule view upgrade_scheme h = inr refl
same_act name access rule view (modify_headers request response) h = inl refl
same_act name access rule view allow_all_requests h = inr refl

none_level : (b : Bool) (n : ℕ) → n ≡ max (cond b 0 0) n
none_level true n = omega arith
none_level false n = omega arith

same_any : {X : Type 0} (b : Bool) (x : X) → cond b x x ≡ x
same_any true x = refl
same_any false x = refl

one_level : (reaches acts decides : Bool) (o : Option Verb) (live : Live) (list : List (Live × Candidate)) → (o ≡ None) ⊎ (acts ≡ decides)
    → levels (cond (reaches && acts) (cons_option (option_map (λ verb. (live, candidate_of live verb)) o) list) list)
    ≡ max (cond (reaches && decides) (level_by o live.rule.priority) 0) (levels list)
one_level reaches acts decides None live list h = ap levels (same_any (reaches && acts) list) ∙ none_level (reaches && decides) (levels list)
one_level reaches acts decides (Some v) live list (inl none) = cc
one_level true true true (Some v) live list (inr same) = refl
one_level true true false (Some v) live list (inr same) = cc
one_level true false true (Some v) live list (inr same) = cc
one_level true false false (Some v) live list (inr same) = omega arith
one_level false acts decides (Some v) live list (inr same) = omega arith

through : (b : Bool) (live : Live) (lives : List Live) → filter_map deciding_of (cond b (live ∷ lives) lives) ≡ cond b (cons_option (deciding_of live) (filter_map deciding_of lives)) (filter_map deciding_of lives)
through true live lives = refl
through false live lives = refl

module _ (suffixes : List SuffixRule) (request : Request) (name : List ℕ) (access : Bool) where
  abbrev is_one : Live → Bool
  is_one live = is_candidate suffixes name access request live.rule

  levels_are : (lives : List Live) → are_plain (rules_by lives) ≡ true → levels (filter_map deciding_of (filter is_one lives)) ≡ greatest suffixes request (rules_by lives)
  levels_are [] plain = refl
  levels_are (live ∷ lives) plain =
      let two = both (is_plain_rule live.rule) (are_plain (rules_by lives)) plain in
      let sent = (both (not (is_some live.rule.condition.regex_filter)) (not (is_redirect live.rule.action)) two.0).1 in
      ap levels (through (is_one live) live (filter is_one lives))
      ∙ one_level (is_some (reach_of suffixes live.rule request)) (may_act name access live.rule live.rule.action request.view) (may_decide live.rule.action request.view) (verb_of live.rule.action) live (filter_map deciding_of (filter is_one lives))
      (same_act name access live.rule request.view live.rule.action sent)
      ∙ ap (max (level suffixes request live.rule)) (levels_are lives two.1)

winner_level : (suffixes : List SuffixRule) (request : Request) (extension : Extension) → are_plain (rules_of extension) ≡ true
    → level_found (winner_of suffixes request extension) ≡ greatest suffixes request (rules_of extension)
winner_level suffixes request extension plain =
    let list = filter_map deciding_of (candidates suffixes extension request) in
    let zero_max : max 0 (levels list) ≡ levels list = omega arith in
    ap level_found (unbeaten_is is_better candidates_are_ordered list)
    ∙ best_level list None ∙ zero_max
    ∙ levels_are suffixes request extension.name (has_access extension.access request) (live_rules extension) (ap are_plain (rules_are extension) ∙ plain)
    ∙ ap (greatest suffixes request) (rules_are extension)

-- ---- blocks

place_tells : (v : Verb) → is_block v ≡ (place_of v == 2)
place_tells verb.Allow = refl
place_tells verb.AllowAllRequests = refl
place_tells verb.Block = refl
place_tells verb.UpgradeScheme = refl
place_tells verb.Redirect = refl

same_place : (p q a b : ℕ) → a ≤ 4 → b ≤ 4 → 5 * p + (5 - a) ≡ 5 * q + (5 - b) → a ≡ b
same_place p q a b small other same = omega arith

same_block : (best : Option Candidate) (o : Option (Live × Candidate)) → level_in best ≡ level_found o → blocks_by best ≡ decides_block o
same_block None None same = refl
same_block None (Some one) same = let small = place_small one.1.action in absurd (omega (arith, small, same))
same_block (Some best) None same = let small = place_small best.action in absurd (omega (arith, small, same))
same_block (Some best) (Some one) same =
    place_tells best.action
    ∙ ap (λ n. n == 2) (same_place best.priority one.1.priority (place_of best.action) (place_of one.1.action) (place_small best.action) (place_small one.1.action) same)
    ∙ sym (place_tells one.1.action)

-- the strongest candidate tells whether the rule blocks that decides
pub strongest_tells : (suffixes : List SuffixRule) (request : Request) (extension : Extension) (best : Option Candidate) → are_plain (rules_of extension) ≡ true
    → level_in best ≡ greatest suffixes request (rules_of extension) → blocks_by best ≡ blocks suffixes request extension
strongest_tells suffixes request extension best plain is =
    same_block best (winner_of suffixes request extension) (is ∙ sym (winner_level suffixes request extension plain))
