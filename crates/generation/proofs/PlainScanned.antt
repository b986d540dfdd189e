-- The scan's outcome is a block exactly where one of the extensions blocks.
use Rattle.std.proofs.Common.{◌≡◌, ℕ, ◌+◌, ◌≤◌, List, [], ◌∷◌, Bool, true, false, ◌||◌, ◌==◌, fold, inl, inr, ⊎_elim, Option, Some, None, option_map, refl, sym, ap, ◌∙◌, arith}
use Rattle.std.specs.Prelude.{◌↔◌, IsTrue}
use Rattle.std.specs.List.{list_any}
use Rattle.std.proofs.lemmas.Bool.{cases_Bool, cond-true, cond-false}
use Rattle.std.proofs.lemmas.Bool.Decides.{nat_tests}
use Rattle.std.proofs.lemmas.List.Folds.{list_any-append}
use Rattle.dnr_base.specs.declared.candidate.Candidate.{Candidate}
use Rattle.dnr_base.specs.declared.request.Request.{Request}
use Rattle.dnr_base.specs.declared.rule_name.RuleName.{RuleName}
use Rattle.dnr_base.specs.declared.verb.Verb.{Verb}
use Rattle.dnr_base.specs.declared.verb.Verb.TheVariants as verb
use Rattle.dnr_spec.specs.Order.{class_of, is_before}
use Rattle.dnr_spec.specs.Suffixes.{SuffixRule}
use Rattle.precedence.proofs.Orders.{before_true}
use Rattle.rule_spec.specs.declared.outcome.Outcome.{Outcome}
use Rattle.rule_spec.specs.declared.outcome.Outcome.TheVariants as outcome
use Rattle.rule_spec.specs.Scan.{Decision, NamedOp, decided, deciding, decision_of, decisions_from, list_of, scan, verdict_by, winner_of, with_ops}
use Rattle.rule_spec.specs.State.{Extension, Live, State}
use Rattle.generation.specs.Choice.{goes_before}
use Rattle.generation.specs.Kept.{better_of}
use Rattle.generation.specs.Plain.{blocks, decides_block, is_block, some_blocks}
use Rattle.generation.proofs.Best.{goes_before_is_order, unbeaten_is}

-- ---- across extensions

abbrev decision_blocks : Option Decision → Bool
decision_blocks None = false
decision_blocks (Some decision) = is_block decision.verb

class_tells : (v : Verb) → is_block v ≡ (class_of v == 0)
class_tells verb.Allow = refl
class_tells verb.AllowAllRequests = refl
class_tells verb.Block = refl
class_tells verb.UpgradeScheme = refl
class_tells verb.Redirect = refl

before_up : (x y : ℕ) (rest : List (ℕ × ℕ)) → is_before ((x, y) ∷ rest) ≡ true → x ≤ y
before_up x y rest h = ⊎_elim (λ less. omega arith) (λ more. let same = more.0 in omega arith) (before_true ((x, y) ∷ rest) h)

before_down : (x y : ℕ) (rest : List (ℕ × ℕ)) → is_before ((x, y) ∷ rest) ≡ false → y ≤ x
before_down x y rest h = grind (arith, nat_tests)

first_zero : (x y : ℕ) → x ≤ y → (x == 0) ≡ ((y == 0) || (x == 0))
first_zero x y less = grind (arith, nat_tests)

second_zero : (x y : ℕ) → y ≤ x → (y == 0) ≡ ((y == 0) || (x == 0))
second_zero x y less = grind (arith, nat_tests)

better_blocks : (best : Option Decision) (next : Decision) → decision_blocks (better_of goes_before best next) ≡ (decision_blocks best || is_block next.verb)
better_blocks None next = refl
better_blocks (Some best) next =
    let rest : List (ℕ × ℕ) = (best.age, next.age) ∷ [] in
    let classes : ((class_of best.verb == 0) || (class_of next.verb == 0)) ≡ (is_block best.verb || is_block next.verb) =
    sym (ap (λ b. b || is_block next.verb) (class_tells best.verb) ∙ ap (λ b. (class_of best.verb == 0) || b) (class_tells next.verb)) in
    elim (cases_Bool (goes_before next best)) [
      | inl wins ↦
          ap decision_blocks (cond-true (goes_before next best) (Some next) (Some best) wins)
          ∙ class_tells next.verb ∙ first_zero (class_of next.verb) (class_of best.verb) (before_up (class_of next.verb) (class_of best.verb) rest wins) ∙ classes
      | inr loses ↦
          ap decision_blocks (cond-false (goes_before next best) (Some next) (Some best) loses)
          ∙ class_tells best.verb ∙ second_zero (class_of next.verb) (class_of best.verb) (before_down (class_of next.verb) (class_of best.verb) rest loses) ∙ classes
    ]

or_three : (a b c : Bool) → ((a || b) || c) ≡ (a || (b || c))
or_three true b c = refl
or_three false b c = refl

some_decision : (list : List Decision) (best : Option Decision) → decision_blocks (fold (better_of goes_before) best list) ≡ (decision_blocks best || list_any (λ d. is_block d.verb) list)
some_decision [] best = or_none (decision_blocks best)
  where
    or_none : (b : Bool) → b ≡ (b || false)
    or_none true = refl
    or_none false = refl
some_decision (next ∷ list) best =
    some_decision list (better_of goes_before best next)
    ∙ ap (λ b. b || list_any (λ d. is_block d.verb) list) (better_blocks best next)
    ∙ or_three (decision_blocks best) (is_block next.verb) (list_any (λ d. is_block d.verb) list)

own_blocks : (name : List ℕ) (age : ℕ) (o : Option (Live × Candidate)) → list_any (λ d. is_block d.verb) (list_of (option_map (decision_of name age) o)) ≡ decides_block o
own_blocks name age None = refl
own_blocks name age (Some one) = or_false (is_block one.1.action)
  where
    or_false : (b : Bool) → (b || false) ≡ b
    or_false true = refl
    or_false false = refl

decisions_block : (suffixes : List SuffixRule) (request : Request) (age : ℕ) (extensions : List Extension)
    → list_any (λ d. is_block d.verb) (decisions_from suffixes request age extensions) ≡ some_blocks suffixes request extensions
decisions_block suffixes request age [] = refl
decisions_block suffixes request age (extension ∷ extensions) =
    list_any-append (λ (d : Decision). is_block d.verb) (list_of (option_map (decision_of extension.name age) (winner_of suffixes request extension))) (decisions_from suffixes request (age + 1) extensions)
    ∙ ap (λ b. b || list_any (λ d. is_block d.verb) (decisions_from suffixes request (age + 1) extensions)) (own_blocks extension.name age (winner_of suffixes request extension))
    ∙ ap (λ b. blocks suffixes request extension || b) (decisions_block suffixes request (age + 1) extensions)

deciding_blocks : (suffixes : List SuffixRule) (state : State) (request : Request) → decision_blocks (deciding suffixes state request) ≡ some_blocks suffixes request state.extensions
deciding_blocks suffixes state request =
    ap decision_blocks (unbeaten_is goes_before goes_before_is_order (decisions_from suffixes request 0 state.extensions))
    ∙ some_decision (decisions_from suffixes request 0 state.extensions) None
    ∙ decisions_block suffixes request 0 state.extensions

-- ---- the outcome

ops_outcome : (told : Outcome) (rule : Option RuleName) (request : Request) (ops : List NamedOp) → (with_ops told rule request ops).outcome ≡ told
ops_outcome told rule request [] = refl
ops_outcome told rule request (op ∷ ops) = refl

abbrev outcome_of : Verb → Outcome
outcome_of verb.Allow = outcome.Allow
outcome_of verb.AllowAllRequests = outcome.Allow
outcome_of verb.Block = outcome.Block
outcome_of verb.UpgradeScheme = outcome.Upgrade
outcome_of verb.Redirect = outcome.Redirect

decided_outcome : (suffixes : List SuffixRule) (state : State) (request : Request) (decision : Decision) (v : Verb) → (decided suffixes state request decision v).outcome ≡ outcome_of v
decided_outcome suffixes state request decision verb.Allow = ops_outcome outcome.Allow _ request _
decided_outcome suffixes state request decision verb.AllowAllRequests = ops_outcome outcome.Allow _ request _
decided_outcome suffixes state request decision verb.Block = refl
decided_outcome suffixes state request decision verb.UpgradeScheme = refl
decided_outcome suffixes state request decision verb.Redirect = refl

verb_tells : (v : Verb) → (is_block v ≡ true) ↔ (outcome_of v ≡ outcome.Block)
verb_tells verb.Allow = (λ h. cc, λ h. cc)
verb_tells verb.AllowAllRequests = (λ h. cc, λ h. cc)
verb_tells verb.Block = (λ h. refl, λ h. refl)
verb_tells verb.UpgradeScheme = (λ h. cc, λ h. cc)
verb_tells verb.Redirect = (λ h. cc, λ h. cc)

verdict_tells : (suffixes : List SuffixRule) (state : State) (request : Request) (o : Option Decision)
    → (decision_blocks o ≡ true) ↔ ((verdict_by suffixes state request o).outcome ≡ outcome.Block)
verdict_tells suffixes state request None =
    let none = ops_outcome outcome.None None request _ in
    (λ h. cc, λ h. let other = sym none ∙ h in cc)
verdict_tells suffixes state request (Some decision) =
    let is = decided_outcome suffixes state request decision decision.verb in
    let tells = verb_tells decision.verb in
    (λ h. is ∙ tells.0 h, λ h. tells.1 (sym is ∙ h))

pub blocked : (suffixes : List SuffixRule) (state : State) (request : Request) (b : Bool) → b ≡ some_blocks suffixes request state.extensions
    → IsTrue b ↔ ((scan suffixes state request).outcome ≡ outcome.Block)
unfolding scan
blocked suffixes state request b is =
    let tells = verdict_tells suffixes state request (deciding suffixes state request) in
    let same = is ∙ sym (deciding_blocks suffixes state request) in
    (λ t. tells.0 (sym same ∙ t), λ h. same ∙ tells.1 h)
