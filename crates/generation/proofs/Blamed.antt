-- The rule that decides is in force in an extension that is installed.
use Rattle.std.proofs.Common.{◌≡◌, ℕ, zero, suc, ◌+◌, ◌<◌, List, [], ◌∷◌, Bool, true, false, cond, fold, arith, Option, Some, None, ap, ◌∙◌, subst}
use Rattle.std.specs.Prelude.{IfSome, option_map, slice_index_or}
use Rattle.std.specs.List.{AllByRecursion, Contains, filter_map, cons_option}
use Rattle.std.proofs.lemmas.List.Elements.{recursion_from_All, All-contains_itself}
use Rattle.dnr_base.specs.declared.request.Request.{Request}
use Rattle.dnr_base.specs.declared.rule_name.RuleName.{RuleName}
use Rattle.dnr_base.specs.declared.verb.Verb.{Verb}
use Rattle.dnr_spec.specs.Suffixes.{SuffixRule}
use Rattle.rule_spec.specs.Access.{has_access}
use Rattle.rule_spec.specs.Rule.{verb_of}
use Rattle.rule_spec.specs.State.{Extension, Live, State, live_rules}
use Rattle.rule_spec.specs.Scan.{Decision, is_candidate, name_of}
use Rattle.generation.specs.Choice.{IsDecidingPattern, decision_by, decision_in, deciding_in, goes_before}
use Rattle.generation.specs.Kept.{Found, Kept, better_of, found_by, frame_by, is_stronger, kept_from, kept_of, nothing_of, with_candidate, with_live, with_lives, with_verb}
use Rattle.generation.specs.Refused.{IsPatternOf}
use Rattle.rule_spec.specs.PatternRule.{NamesPattern}
use Rattle.generation.proofs.Walked.{lives_name}

-- ---- the better of two

module _ {X : Type 0} (P : X → Type 0) (order_of : X → X → Bool) where
  one_of : (b : Bool) (best next : X) → P best → P next → IfSome (cond b (Some next) (Some best)) P
  one_of true best next h g = g
  one_of false best next h g = h

  pub better_has : (best : Option X) (next : X) → IfSome best P → P next → IfSome (better_of order_of best next) P
  better_has None next h g = g
  better_has (Some best) next h g = one_of (order_of next best) best next h g

  pub fold_has : (best : Option X) (xs : List X) → IfSome best P → AllByRecursion P xs → IfSome (fold (better_of order_of) best xs) P
  fold_has best [] h all = h
  fold_has best (x ∷ xs) h all = fold_has (better_of order_of best x) xs (better_has best x h all.0) all.1

-- ---- what is kept of an extension

module _ (Q : Live → Type 0) (suffixes : List SuffixRule) (request : Request) where
  verb_has : (o : Option Verb) (kept : Kept) (live : Live) (frame : Option ℕ) → IfSome kept.best (λ b. Q b.live) → Q live → IfSome (with_verb o kept live frame).best (λ b. Q b.live)
  verb_has None kept live frame h g = h
  verb_has (Some verb) kept live frame h g = better_has (λ (b : Found). Q b.live) is_stronger kept.best (found_by live verb frame) h g

  case_has : (b : Bool) (kept : Kept) (live : Live) (frame : Option ℕ) → IfSome kept.best (λ b. Q b.live) → Q live
      → IfSome (cond b (with_candidate kept live frame) kept).best (λ b. Q b.live)
  case_has true kept live frame h g = verb_has (verb_of live.rule.action) kept live frame h g
  case_has false kept live frame h g = h

  pub lives_have : (lives : List Live) (kept : Kept) → IfSome kept.best (λ b. Q b.live) → AllByRecursion Q lives → IfSome (with_lives suffixes request kept lives).best (λ b. Q b.live)
  lives_have [] kept h all = h
  lives_have (live ∷ lives) kept h all =
      lives_have lives (with_live suffixes request kept live) (case_has (is_candidate suffixes kept.name kept.access request live.rule) kept live (frame_by suffixes request live) h all.0) all.1

-- ---- what extensions say

-- the rule is in force in one of these extensions
pub record IsIn (extensions : List Extension) (decision : Decision) : Type 0 where
  pub extension : Extension
  pub installed : Contains extensions extension
  pub name : decision.extension ≡ extension.name
  pub in_force : Contains (live_rules extension) decision.live

said_in : (extensions : List Extension) (extension : Extension) (name : List ℕ) (age : ℕ) (best : Option Found)
    → Contains extensions extension → name ≡ extension.name → IfSome best (λ b. Contains (live_rules extension) b.live) → IfSome (option_map (decision_by name age) best) (IsIn extensions)
said_in extensions extension name age None there same h = tt
said_in extensions extension name age (Some best) there same h = record { extension = extension; installed = there; name = same; in_force = h }

both_in : (extensions : List Extension) (o : Option Decision) (decisions : List Decision) → IfSome o (IsIn extensions) → AllByRecursion (IsIn extensions) decisions → AllByRecursion (IsIn extensions) (cons_option o decisions)
both_in extensions None decisions h all = all
both_in extensions (Some decision) decisions h all = (h, all)

decisions_in_force : (suffixes : List SuffixRule) (request : Request) (age : ℕ) (all rest : List Extension) → AllByRecursion (Contains all) rest
    → AllByRecursion (IsIn all) (filter_map decision_in (kept_from suffixes request age rest))
decisions_in_force suffixes request age all [] h = tt
decisions_in_force suffixes request age all (extension ∷ rest) h =
    let start = nothing_of extension.name age (has_access extension.access request) in
    let kept = kept_of suffixes request age extension in
    both_in all (decision_in kept) (filter_map decision_in (kept_from suffixes request (age + 1) rest))
    (said_in all extension kept.name kept.age kept.best h.0 (lives_name suffixes request start (live_rules extension))
    (lives_have (Contains (live_rules extension)) suffixes request (live_rules extension) start tt
    (recursion_from_All (Contains (live_rules extension)) (live_rules extension) (All-contains_itself (live_rules extension)))))
    (decisions_in_force suffixes request (age + 1) all rest h.1)

deciding_in_force : (suffixes : List SuffixRule) (request : Request) (extensions : List Extension) → IfSome (deciding_in (kept_from suffixes request 0 extensions)) (IsIn extensions)
deciding_in_force suffixes request extensions =
    fold_has (IsIn extensions) goes_before None (filter_map decision_in (kept_from suffixes request 0 extensions)) tt
    (decisions_in_force suffixes request 0 extensions extensions (recursion_from_All (Contains extensions) extensions (All-contains_itself extensions)))

only_one : (live other : Live) (k : ℕ) → k < 1 → slice_index_or (other ∷ []) k live ≡ live → other ≡ live
only_one live other zero h is = is
only_one live other (suc k) h is = absurd (omega (arith, h))

one_rule : (live other : Live) → Contains (other ∷ []) live → other ≡ live
one_rule live other h = only_one live other h.0 h.1 h.2

named_by : (state : State) (o : Option Decision) (rule : RuleName) → IfSome o (IsIn state.extensions) → IsDecidingPattern o rule → NamesPattern state rule
named_by state None rule h named = absurd named
named_by state (Some decision) rule h named = record {
  extension = h.extension;
  live = named.live;
  installed = h.installed;
  in_force = subst (Contains (live_rules h.extension)) (one_rule named.live decision.live named.in_force) h.in_force;
  pattern = named.pattern;
  named = named.named ∙ ap (λ n. name_of n named.live) h.name;
}

pub decided_names : (suffixes : List SuffixRule) (state : State) (request : Request) (rule : RuleName)
    → IsDecidingPattern (deciding_in (kept_from suffixes request 0 state.extensions)) rule → NamesPattern state rule
decided_names suffixes state request rule named = named_by state (deciding_in (kept_from suffixes request 0 state.extensions)) rule (deciding_in_force suffixes request state.extensions) named

pub walked_names : (state : State) (rule : RuleName) → IsPatternOf state.extensions rule → NamesPattern state rule
walked_names state rule h = record {
  extension = h.extension;
  live = h.rule.live;
  installed = h.installed;
  in_force = h.rule.in_force;
  pattern = h.rule.pattern;
  named = h.rule.named;
}
