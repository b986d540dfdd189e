-- A walk over rules in force: what is kept, and which rule a fault names.
use Rattle.std.proofs.Common.{◌≡◌, ℕ, List, [], ◌∷◌, ◌++◌, fold, option_to_list, Option, Some, None, Result, Ok, Err, refl, sym, ap, ◌∙◌, subst, ⊎_elim, append_assoc, append-nil}
use Rattle.std.specs.List.{cons_option, Contains}
use Rattle.std.proofs.lemmas.Bool.{cases_Bool, cond-true, cond-false}
use Rattle.std.proofs.lemmas.List.Elements.{Contains-append_left, Contains-append_right}
use Rattle.dnr_base.specs.declared.request.Request.{Request}
use Rattle.dnr_base.specs.declared.rule_name.RuleName.{RuleName}
use Rattle.dnr_base.specs.declared.verb.Verb.{Verb}
use Rattle.dnr_base.specs.Faults.{Rose}
use Rattle.dnr_spec.specs.Suffixes.{SuffixRule}
use Rattle.rule_spec.specs.Rule.{verb_of}
use Rattle.rule_spec.specs.State.{Live}
use Rattle.rule_spec.specs.Scan.{is_candidate, name_of}
use Rattle.generation.specs.declared.refusal.DecideRefusal.{DecideRefusal}
use Rattle.generation.specs.declared.refusal.DecideRefusal.TheVariants.{HostFault, NoMemory}
use Rattle.generation.specs.Kept.{Kept, frame_by, with_verb, with_candidate, with_live, with_lives, with_some}
use Rattle.generation.specs.Refused.{Ends, IsPattern, Refuses}

-- ---- what is kept

pub fold_both : {A B : Type 0} (f : B → A → B) (b : B) (xs ys : List A) → fold f b (xs ++ ys) ≡ fold f (fold f b xs) ys
fold_both f b [] ys = refl
fold_both f b (x ∷ xs) ys = fold_both f (f b x) xs ys

pub cons_is : {X : Type 0} (o : Option X) (xs : List X) → cons_option o xs ≡ option_to_list o ++ xs
cons_is None xs = refl
cons_is (Some x) xs = refl

pub some_is : (suffixes : List SuffixRule) (request : Request) (kept : Kept) (o : Option Live) → with_some suffixes request kept o ≡ with_lives suffixes request kept (option_to_list o)
some_is suffixes request kept None = refl
some_is suffixes request kept (Some live) = refl

-- the rules that were walked, and what was kept of them
pub record Walked (suffixes : List SuffixRule) (request : Request) (start : Kept) (lives rest : List Live) (kept : Kept) : Type 0 where
  pub done : List Live
  pub cut : lives ≡ done ++ rest
  pub so_far : kept ≡ with_lives suffixes request start done

pub walked_more : (suffixes : List SuffixRule) (request : Request) (start : Kept) (lives chunk rest more : List Live) (kept new : Kept)
    → Walked suffixes request start lives rest kept → rest ≡ chunk ++ more → new ≡ with_lives suffixes request kept chunk → Walked suffixes request start lives more new
walked_more suffixes request start lives chunk rest more kept new h cut is = record {
  done = h.done ++ chunk;
  cut = h.cut ∙ ap (λ l. h.done ++ l) cut ∙ sym (append_assoc h.done chunk more);
  so_far = is ∙ ap (λ k. with_lives suffixes request k chunk) h.so_far ∙ sym (fold_both (with_live suffixes request) start h.done chunk);
}

pub walked_end : (suffixes : List SuffixRule) (request : Request) (start : Kept) (lives rest : List Live) (kept : Kept)
    → Walked suffixes request start lives rest kept → rest ≡ [] → kept ≡ with_lives suffixes request start lives
walked_end suffixes request start lives rest kept h none =
    h.so_far ∙ ap (with_lives suffixes request start) (sym (h.cut ∙ ap (λ l. h.done ++ l) none ∙ append-nil h.done))

-- ---- its name

verb_name : (o : Option Verb) (kept : Kept) (live : Live) (frame : Option ℕ) → (with_verb o kept live frame).name ≡ kept.name
verb_name None kept live frame = refl
verb_name (Some verb) kept live frame = refl

pub candidate_name : (kept : Kept) (live : Live) (frame : Option ℕ) → (with_candidate kept live frame).name ≡ kept.name
candidate_name kept live frame = verb_name (verb_of live.rule.action) kept live frame

verb_access : (o : Option Verb) (kept : Kept) (live : Live) (frame : Option ℕ) → (with_verb o kept live frame).access ≡ kept.access
verb_access None kept live frame = refl
verb_access (Some verb) kept live frame = refl

pub candidate_access : (kept : Kept) (live : Live) (frame : Option ℕ) → (with_candidate kept live frame).access ≡ kept.access
candidate_access kept live frame = verb_access (verb_of live.rule.action) kept live frame

live_name : (suffixes : List SuffixRule) (request : Request) (kept : Kept) (live : Live) → (with_live suffixes request kept live).name ≡ kept.name
live_name suffixes request kept live =
    ⊎_elim
    (λ yes. ap (λ k. k.name) (cond-true (is_candidate suffixes kept.name kept.access request live.rule) (with_candidate kept live (frame_by suffixes request live)) kept yes)
    ∙ candidate_name kept live (frame_by suffixes request live))
    (λ no. ap (λ k. k.name) (cond-false (is_candidate suffixes kept.name kept.access request live.rule) (with_candidate kept live (frame_by suffixes request live)) kept no))
    (cases_Bool (is_candidate suffixes kept.name kept.access request live.rule))

pub lives_name : (suffixes : List SuffixRule) (request : Request) (kept : Kept) (lives : List Live) → (with_lives suffixes request kept lives).name ≡ kept.name
lives_name suffixes request kept [] = refl
lives_name suffixes request kept (live ∷ lives) = lives_name suffixes request (with_live suffixes request kept live) lives ∙ live_name suffixes request kept live

pub walked_name : (suffixes : List SuffixRule) (request : Request) (start : Kept) (lives rest : List Live) (kept : Kept) → Walked suffixes request start lives rest kept → kept.name ≡ start.name
walked_name suffixes request start lives rest kept h = ap (λ k. k.name) h.so_far ∙ lives_name suffixes request start h.done

-- ---- faults

pub pattern_in : (name other : List ℕ) (xs ys : List Live) → name ≡ other → ((live : Live) → Contains xs live → Contains ys live) → (rule : RuleName) → IsPattern name xs rule → IsPattern other ys rule
pattern_in name other xs ys same f rule h = record {
  live = h.live;
  in_force = f h.live h.in_force;
  pattern = h.pattern;
  named = h.named ∙ ap (λ n. name_of n h.live) same;
}

-- a chunk of the rules that are still to be walked is among all
pub walked_pattern : (suffixes : List SuffixRule) (request : Request) (start : Kept) (lives chunk rest more : List Live) (kept : Kept)
    → Walked suffixes request start lives rest kept → rest ≡ chunk ++ more → (rule : RuleName) → IsPattern kept.name chunk rule → IsPattern start.name lives rule
walked_pattern suffixes request start lives chunk rest more kept h cut =
    pattern_in kept.name start.name chunk lives (walked_name suffixes request start lives rest kept h)
    (λ live there. subst (λ (l : List Live). Contains l live) (sym (h.cut ∙ ap (λ l. h.done ++ l) cut))
    (Contains-append_right h.done (chunk ++ more) live (Contains-append_left chunk more live there)))

-- an error is handed on
pub ends_on : (P Q : RuleName → Type 0) (before start now : ℕ) (refusal : DecideRefusal) → before ≡ start → ((rule : RuleName) → P rule → Q rule)
    → Refuses P before now refusal → Refuses Q start now refusal
ends_on P Q before start now (HostFault rule) same f h = (subst (λ (n : ℕ). Rose n now) same h.0, f rule h.1)
ends_on P Q before start now NoMemory same f h = h ∙ same

-- what the last call answers is answered
pub ends_in : {T : Type 0} (P Q : RuleName → Type 0) (before start now : ℕ) (result : Result T DecideRefusal) → before ≡ start → ((rule : RuleName) → P rule → Q rule)
    → Ends P before now result → Ends Q start now result
ends_in P Q before start now (Ok x) same f h = h ∙ same
ends_in P Q before start now (Err refusal) same f h = ends_on P Q before start now refusal same f h

pub first_pattern : (name : List ℕ) (walked xs ys : List Live) → walked ≡ xs → (rule : RuleName) → IsPattern name walked rule → IsPattern name (xs ++ ys) rule
first_pattern name walked xs ys is = pattern_in name name walked (xs ++ ys) refl
    (λ live there. Contains-append_left xs ys live (subst (λ (l : List Live). Contains l live) is there))

pub second_pattern : (suffixes : List SuffixRule) (request : Request) (start kept : Kept) (first walked xs ys : List Live) → kept ≡ with_lives suffixes request start first → walked ≡ ys
    → (rule : RuleName) → IsPattern kept.name walked rule → IsPattern start.name (xs ++ ys) rule
second_pattern suffixes request start kept first walked xs ys so_far is = pattern_in kept.name start.name walked (xs ++ ys)
    (ap (λ k. k.name) so_far ∙ lives_name suffixes request start first)
    (λ live there. Contains-append_right xs ys live (subst (λ (l : List Live). Contains l live) is there))

pub walked_start : (suffixes : List SuffixRule) (request : Request) (start : Kept) (lives : List Live) → Walked suffixes request start lives lives start
walked_start suffixes request start lives = record { done = []; cut = refl; so_far = refl }
