-- What is kept of an extension at the end is what the definition says of it.
use Rattle.std.proofs.Common.{◌≡◌, ℕ, ◌+◌, List, [], ◌∷◌, ◌++◌, Bool, true, false, not, cond, fold, filter, map, Option, Some, None, option_map, is_some, refl, sym, ap, ◌∙◌, ⊎_elim, append_assoc, append-nil, arith}
use Rattle.std.specs.Prelude.{max}
use Rattle.std.specs.List.{filter_map, cons_option}
use Rattle.std.proofs.lemmas.Bool.{cases_Bool, cond-true, cond-false}
use Rattle.dnr_base.specs.declared.candidate.Candidate.{Candidate}
use Rattle.dnr_base.specs.declared.request.Request.{Request}
use Rattle.dnr_base.specs.declared.verb.Verb.{Verb}
use Rattle.dnr_spec.specs.Order.{beats}
use Rattle.dnr_spec.specs.Suffixes.{SuffixRule}
use Rattle.rule_spec.specs.Access.{has_access}
use Rattle.rule_spec.specs.Rule.{Action, block, redirect, allow, upgrade_scheme, modify_headers, allow_all_requests, verb_of}
use Rattle.rule_spec.specs.State.{Extension, Live, live_rules}
use Rattle.rule_spec.specs.Scan.{allowed_priority, candidate_of, candidates, deciding_of, decision_of, decisions_from, greatest_allowed, is_candidate, list_of, winner_of}
use Rattle.generation.specs.Choice.{decision_by, decision_in}
use Rattle.generation.specs.Kept.{Found, Kept, better_of, frame_by, is_stronger, kept_from, kept_of, nothing_of, with_candidate, with_lives, with_verb}
use Rattle.generation.proofs.Best.{candidates_are_ordered, unbeaten_is}
use Rattle.generation.proofs.Walked.{candidate_name, candidate_access}

-- a rule that changes headers
abbrev pub is_changing : Live → Bool
is_changing live = not (is_some (verb_of live.rule.action))

-- ---- candidates alone count

abbrev pub taken : List SuffixRule → Request → Kept → Live → Kept
taken suffixes request kept live = with_candidate kept live (frame_by suffixes request live)

module _ (suffixes : List SuffixRule) (request : Request) (name : List ℕ) (access : Bool) where
  same_test : (kept : Kept) (live : Live) → kept.name ≡ name → kept.access ≡ access
      → is_candidate suffixes kept.name kept.access request live.rule ≡ is_candidate suffixes name access request live.rule
  same_test kept live h g =
      ap (λ n. is_candidate suffixes n kept.access request live.rule) h ∙ ap (λ a. is_candidate suffixes name a request live.rule) g

  pub by_candidates : (lives : List Live) (kept : Kept) → kept.name ≡ name → kept.access ≡ access
      → with_lives suffixes request kept lives ≡ fold (taken suffixes request) kept (filter (λ live. is_candidate suffixes name access request live.rule) lives)
  by_candidates [] kept h g = refl
  by_candidates (live ∷ lives) kept h g =
      let more = filter (λ l. is_candidate suffixes name access request l.rule) lives in
      let own = is_candidate suffixes kept.name kept.access request live.rule in
      let test = is_candidate suffixes name access request live.rule in
      ⊎_elim
      (λ (yes : test ≡ true).
      ap (λ k. with_lives suffixes request k lives) (cond-true own (taken suffixes request kept live) kept (same_test kept live h g ∙ yes))
      ∙ by_candidates lives (taken suffixes request kept live) (candidate_name kept live (frame_by suffixes request live) ∙ h) (candidate_access kept live (frame_by suffixes request live) ∙ g)
      ∙ ap (fold (taken suffixes request) kept) (sym (cond-true test (live ∷ more) more yes)))
      (λ (no : test ≡ false).
      ap (λ k. with_lives suffixes request k lives) (cond-false own (taken suffixes request kept live) kept (same_test kept live h g ∙ no))
      ∙ by_candidates lives kept h g
      ∙ ap (fold (taken suffixes request) kept) (sym (cond-false test (live ∷ more) more no)))
      (cases_Bool test)

-- ---- those that change headers

verb_changing : (o : Option Verb) (kept : Kept) (live : Live) (frame : Option ℕ)
    → (with_verb o kept live frame).changing ≡ kept.changing ++ cond (not (is_some o)) (live ∷ []) []
verb_changing None kept live frame = refl
verb_changing (Some verb) kept live frame = sym (append-nil kept.changing)

cond_more : (b : Bool) (live : Live) (lives : List Live) → cond b (live ∷ []) [] ++ lives ≡ cond b (live ∷ lives) lives
cond_more true live lives = refl
cond_more false live lives = refl

none_allows : (action : Action) (priority : ℕ) → verb_of action ≡ None → allowed_priority action priority ≡ 0
none_allows block priority h = refl
none_allows (redirect target) priority h = refl
none_allows allow priority h = cc
none_allows upgrade_scheme priority h = refl
none_allows (modify_headers request response) priority h = refl
none_allows allow_all_requests priority h = cc

verb_allowed : (o : Option Verb) (kept : Kept) (live : Live) (frame : Option ℕ) → (o ≡ None → allowed_priority live.rule.action live.rule.priority ≡ 0)
    → (with_verb o kept live frame).allowed ≡ max (allowed_priority live.rule.action live.rule.priority) kept.allowed
verb_allowed None kept live frame h = let zero_is = h refl in omega (arith, zero_is)
verb_allowed (Some verb) kept live frame h = refl

max_moves : (a b c : ℕ) → max a (max b c) ≡ max (max b a) c
max_moves a b c = omega arith

verb_age : (o : Option Verb) (kept : Kept) (live : Live) (frame : Option ℕ) → (with_verb o kept live frame).age ≡ kept.age
verb_age None kept live frame = refl
verb_age (Some verb) kept live frame = refl

-- ---- the one that decides

-- the candidate that decides, with its frame
abbrev pub with_frame : List SuffixRule → Request → Live × Candidate → Found
with_frame suffixes request one = record { live = one.0; candidate = one.1; frame = frame_by suffixes request one.0 }

module _ (suffixes : List SuffixRule) (request : Request) where
  verb_best : (o : Option Verb) (kept : Kept) (live : Live) (rest : List (Live × Candidate))
      → fold (better_of is_stronger) (with_verb o kept live (frame_by suffixes request live)).best (map (with_frame suffixes request) rest)
      ≡ fold (better_of is_stronger) kept.best (map (with_frame suffixes request) (cons_option (option_map (λ verb. (live, candidate_of live verb)) o) rest))
  verb_best None kept live rest = refl
  verb_best (Some verb) kept live rest = refl

  best_is : (lives : List Live) (kept : Kept)
      → (fold (taken suffixes request) kept lives).best ≡ fold (better_of is_stronger) kept.best (map (with_frame suffixes request) (filter_map deciding_of lives))
  best_is [] kept = refl
  best_is (live ∷ lives) kept = best_is lives (taken suffixes request kept live) ∙ verb_best (verb_of live.rule.action) kept live (filter_map deciding_of lives)

  better_case : (b : Bool) (next best : Live × Candidate)
      → cond b (Some (with_frame suffixes request next)) (Some (with_frame suffixes request best)) ≡ option_map (with_frame suffixes request) (cond b (Some next) (Some best))
  better_case true next best = refl
  better_case false next best = refl

  better_alike : (best : Option (Live × Candidate)) (next : Live × Candidate)
      → better_of is_stronger (option_map (with_frame suffixes request) best) (with_frame suffixes request next)
      ≡ option_map (with_frame suffixes request) (better_of (λ a b. beats a.1 b.1) best next)
  better_alike None next = refl
  better_alike (Some best) next = better_case (beats next.1 best.1) next best

  -- frames change nothing in the choice
  best_alike : (best : Option (Live × Candidate)) (list : List (Live × Candidate))
      → fold (better_of is_stronger) (option_map (with_frame suffixes request) best) (map (with_frame suffixes request) list)
      ≡ option_map (with_frame suffixes request) (fold (better_of (λ a b. beats a.1 b.1)) best list)
  best_alike best [] = refl
  best_alike best (next ∷ list) =
      ap (λ b. fold (better_of is_stronger) b (map (with_frame suffixes request) list)) (better_alike best next)
      ∙ best_alike (better_of (λ a b. beats a.1 b.1) best next) list

  -- ---- the rest of it

  changing_is : (lives : List Live) (kept : Kept) → (fold (taken suffixes request) kept lives).changing ≡ kept.changing ++ filter is_changing lives
  changing_is [] kept = sym (append-nil kept.changing)
  changing_is (live ∷ lives) kept =
      changing_is lives (taken suffixes request kept live)
      ∙ ap (λ l. l ++ filter is_changing lives) (verb_changing (verb_of live.rule.action) kept live (frame_by suffixes request live))
      ∙ append_assoc kept.changing (cond (is_changing live) (live ∷ []) []) (filter is_changing lives)
      ∙ ap (λ l. kept.changing ++ l) (cond_more (is_changing live) live (filter is_changing lives))

  allowed_is : (lives : List Live) (kept : Kept) → (fold (taken suffixes request) kept lives).allowed ≡ max (greatest_allowed lives) kept.allowed
  allowed_is [] kept = omega arith
  allowed_is (live ∷ lives) kept =
      allowed_is lives (taken suffixes request kept live)
      ∙ ap (max (greatest_allowed lives)) (verb_allowed (verb_of live.rule.action) kept live (frame_by suffixes request live) (none_allows live.rule.action live.rule.priority))
      ∙ max_moves (greatest_allowed lives) (allowed_priority live.rule.action live.rule.priority) kept.allowed

  age_is : (lives : List Live) (kept : Kept) → (fold (taken suffixes request) kept lives).age ≡ kept.age
  age_is [] kept = refl
  age_is (live ∷ lives) kept = age_is lives (taken suffixes request kept live) ∙ verb_age (verb_of live.rule.action) kept live (frame_by suffixes request live)

  name_is : (lives : List Live) (kept : Kept) → (fold (taken suffixes request) kept lives).name ≡ kept.name
  name_is [] kept = refl
  name_is (live ∷ lives) kept = name_is lives (taken suffixes request kept live) ∙ candidate_name kept live (frame_by suffixes request live)

  access_is : (lives : List Live) (kept : Kept) → (fold (taken suffixes request) kept lives).access ≡ kept.access
  access_is [] kept = refl
  access_is (live ∷ lives) kept = access_is lives (taken suffixes request kept live) ∙ candidate_access kept live (frame_by suffixes request live)

-- ---- all of it

abbrev pub said_by : List SuffixRule → Request → ℕ → Extension → Kept
said_by suffixes request age extension = record {
  name = extension.name;
  age = age;
  access = has_access extension.access request;
  best = option_map (with_frame suffixes request) (winner_of suffixes request extension);
  changing = filter is_changing (candidates suffixes extension request);
  allowed = greatest_allowed (candidates suffixes extension request);
}

abbrev of_parts : List ℕ → ℕ → Bool → Option Found → List Live → ℕ → Kept
of_parts name age access best changing allowed =
    record { name = name; age = age; access = access; best = best; changing = changing; allowed = allowed }

same_kept : (kept : Kept) (name : List ℕ) (age : ℕ) (access : Bool) (best : Option Found) (changing : List Live) (allowed : ℕ)
    → kept.name ≡ name → kept.age ≡ age → kept.access ≡ access → kept.best ≡ best → kept.changing ≡ changing → kept.allowed ≡ allowed
    → kept ≡ of_parts name age access best changing allowed
same_kept kept name age access best changing allowed n a s b c l =
    ap (λ x. of_parts x kept.age kept.access kept.best kept.changing kept.allowed) n
    ∙ ap (λ x. of_parts name x kept.access kept.best kept.changing kept.allowed) a
    ∙ ap (λ x. of_parts name age x kept.best kept.changing kept.allowed) s
    ∙ ap (λ x. of_parts name age access x kept.changing kept.allowed) b
    ∙ ap (λ x. of_parts name age access best x kept.allowed) c
    ∙ ap (λ x. of_parts name age access best changing x) l

max_zero : (n : ℕ) → max n 0 ≡ n
max_zero n = omega arith

pub kept_says : (suffixes : List SuffixRule) (request : Request) (age : ℕ) (extension : Extension) → kept_of suffixes request age extension ≡ said_by suffixes request age extension
kept_says suffixes request age extension =
    let access = has_access extension.access request in
    let start = nothing_of extension.name age access in
    let lives = candidates suffixes extension request in
    by_candidates suffixes request extension.name access (live_rules extension) start refl refl
    ∙ same_kept (fold (taken suffixes request) start lives) extension.name age access (option_map (with_frame suffixes request) (winner_of suffixes request extension)) (filter is_changing lives) (greatest_allowed lives)
    (name_is suffixes request lives start) (age_is suffixes request lives start) (access_is suffixes request lives start)
    (best_is suffixes request lives start ∙ best_alike suffixes request None (filter_map deciding_of lives)
    ∙ ap (option_map (with_frame suffixes request)) (sym (unbeaten_is (λ a b. beats a.1 b.1) candidates_are_ordered (filter_map deciding_of lives))))
    (changing_is suffixes request lives start)
    (allowed_is suffixes request lives start ∙ max_zero (greatest_allowed lives))

-- ---- decisions

list_is : {X : Type 0} (o : Option X) (xs : List X) → cons_option o xs ≡ list_of o ++ xs
list_is None xs = refl
list_is (Some x) xs = refl

decision_is : (suffixes : List SuffixRule) (request : Request) (name : List ℕ) (age : ℕ) (o : Option (Live × Candidate))
    → option_map (decision_by name age) (option_map (with_frame suffixes request) o) ≡ option_map (decision_of name age) o
decision_is suffixes request name age None = refl
decision_is suffixes request name age (Some one) = refl

pub decisions_are : (suffixes : List SuffixRule) (request : Request) (age : ℕ) (extensions : List Extension)
    → filter_map decision_in (kept_from suffixes request age extensions) ≡ decisions_from suffixes request age extensions
decisions_are suffixes request age [] = refl
decisions_are suffixes request age (extension ∷ extensions) =
    ap (λ k. cons_option (decision_in k) (filter_map decision_in (kept_from suffixes request (age + 1) extensions))) (kept_says suffixes request age extension)
    ∙ ap (λ o. cons_option o (filter_map decision_in (kept_from suffixes request (age + 1) extensions))) (decision_is suffixes request extension.name age (winner_of suffixes request extension))
    ∙ ap (cons_option (option_map (decision_of extension.name age) (winner_of suffixes request extension))) (decisions_are suffixes request (age + 1) extensions)
    ∙ list_is (option_map (decision_of extension.name age) (winner_of suffixes request extension)) (decisions_from suffixes request (age + 1) extensions)
