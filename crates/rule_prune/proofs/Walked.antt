-- What a walk over the rules finds.
use Rattle.std.proofs.Common.{◌≡◌, ℕ, List, [], ◌∷◌, ◌++◌, map, filter, flat_map, Bool, true, false, cond, not, ◌&&◌, Option, Some, refl, sym, ap, ◌∙◌, append-nil}
use Rattle.std.specs.Prelude.{option_map, unwrap_or}
use Rattle.std.specs.List.{find, slice_get}
use Rattle.std.proofs.lemmas.Option.{slice_get-map}
use Rattle.rule_spec.specs.Rule.{Rule}
use Rattle.prune_spec.specs.declared.shadow.Shadow.{Shadow}
use Rattle.prune_spec.specs.Pruned.{outdoes, is_needless, kept, named_by, removals_from, removals}
use Rattle.rule_prune.specs.Walks.{removal_of}

find_kept : (b c : Bool) (x : Rule) (test : Rule → Bool) (list : List Rule) (later : Option Rule) → test x ≡ c → find test list ≡ later → find test (cond b (x ∷ list) list) ≡ cond (b && c) (Some x) later
find_kept true c x test list later e h = λ i. cond (e i) (Some x) (h i)
find_kept false c x test list later e h = h

find_filtered : (keep test : Rule → Bool) (list : List Rule) → find test (filter keep list) ≡ find (λ k. keep k && test k) list
find_filtered keep test [] = refl
find_filtered keep test (x ∷ list) = find_kept (keep x) (test x) x test (filter keep list) (find (λ k. keep k && test k) list) refl (find_filtered keep test list)

pub found_among : (rules : List Rule) (s : Rule) → find (λ k. outdoes rules k s) (kept rules) ≡ find (λ k. not (is_needless rules k) && outdoes rules k s) rules
found_among rules s = find_filtered (λ k. not (is_needless rules k)) (λ k. outdoes rules k s) rules

named_or_not : (b : Bool) (s : Rule) (rules keepers list : List Rule) (entries : List Shadow) → removals_from rules keepers list ≡ entries
    → removals_from rules keepers (cond b (s ∷ list) list) ≡ cond b (named_by s (find (λ k. outdoes rules k s) keepers)) [] ++ entries
named_or_not true s rules keepers list entries h = ap (λ l. named_by s (find (λ k. outdoes rules k s) keepers) ++ l) h
named_or_not false s rules keepers list entries h = h

walked : (rules list : List Rule) → removals_from rules (kept rules) (filter (is_needless rules) list) ≡ flat_map (removal_of rules) list
walked rules [] = refl
walked rules (s ∷ list) = named_or_not (is_needless rules s) s rules (kept rules) (filter (is_needless rules) list) (flat_map (removal_of rules) list) (walked rules list)

pub removals_walked : (rules : List Rule) → removals rules ≡ flat_map (removal_of rules) rules
removals_walked rules = walked rules rules

-- ---- the removal of one rule

pub gone_is : (rules : List Rule) (needless : List Bool) → needless ≡ map (is_needless rules) rules → (place : ℕ) (s : Rule) → slice_get rules place ≡ Some s → unwrap_or (slice_get needless place) false ≡ is_needless rules s
gone_is rules needless are place s at =
    ap (λ (l : List Bool). unwrap_or (slice_get l place) false) are
    ∙ ap (λ o. unwrap_or o false) (slice_get-map (is_needless rules) rules place ∙ ap (option_map (is_needless rules)) at)

pub none_removed : (rules : List Rule) (s : Rule) (before : List Shadow) → is_needless rules s ≡ false → before ≡ before ++ removal_of rules s
none_removed rules s before h =
    sym (ap (λ b. before ++ cond b (named_by s (find (λ k. outdoes rules k s) (kept rules))) []) h ∙ append-nil before)

pub one_removed : (rules : List Rule) (s : Rule) → is_needless rules s ≡ true → removal_of rules s ≡ named_by s (find (λ k. outdoes rules k s) (kept rules))
one_removed rules s h = ap (λ b. cond b (named_by s (find (λ k. outdoes rules k s) (kept rules))) []) h
