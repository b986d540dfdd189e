-- What the parts of a verdict show: its numbers, and the texts that stand at their places.
use Rattle.std.specs.Prelude.{◌≡◌, ℕ, ◌≤◌, List, map, take, drop, length, Bool, true, false, ◌&&◌, nat_le, Option, Some, None}
use Rattle.dnr_base.specs.declared.direction.Direction.{Direction}
use Rattle.dnr_base.specs.declared.direction.Direction.TheVariants as direction
use Rattle.dnr_base.specs.declared.operation.Operation.{Operation}
use Rattle.dnr_base.specs.declared.operation.Operation.TheVariants as operation
use Rattle.dnr_base.specs.declared.rule_name.RuleName.{RuleName}
use Rattle.rule_spec.specs.declared.outcome.Outcome.{Outcome}
use Rattle.rule_spec.specs.declared.outcome.Outcome.TheVariants as outcome
use Rattle.rule_spec.specs.Scan.{NamedOp, Verdict}
use Rattle.verdict_shown.specs.declared.shown.ShownText.{ShownText}
use Rattle.verdict_shown.specs.declared.shown.ShownRule.{ShownRule}
use Rattle.verdict_shown.specs.declared.shown.ShownChange.{ShownChange}
use Rattle.verdict_shown.specs.declared.shown.ShownVerdict.{ShownVerdict}
use Rattle.verdict_shown.specs.declared.shown.ShowRefusal.{ShowRefusal}
use Rattle.verdict_shown.specs.declared.shown.ShowRefusal.TheVariants.{Room, NoMemory}

-- ---- what a program that reads them learns

-- a header change: whose header, what is done, and the rule that asked for it
pub record Change : Type 0 where
  pub direction : ℕ
  pub operation : ℕ
  pub name : List ℕ
  pub value : Option (List ℕ)
  pub rule : RuleName

-- what becomes of a request, after so many updates
pub record Learnt : Type 0 where
  pub generation : ℕ
  pub outcome : ℕ
  pub rule : Option RuleName
  pub target : Option (List ℕ)
  pub changes : List Change

-- ---- numbers

abbrev pub direction_number : Direction → ℕ
direction_number direction.Request = 0
direction_number direction.Response = 1

abbrev pub operation_number : Operation → ℕ
operation_number operation.Append = 0
operation_number operation.Set = 1
operation_number operation.Remove = 2

abbrev pub outcome_number : Outcome → ℕ
outcome_number outcome.None = 0
outcome_number outcome.Block = 1
outcome_number outcome.Redirect = 2
outcome_number outcome.Upgrade = 3
outcome_number outcome.Allow = 4

-- ---- what a verdict says

abbrev pub change_of : NamedOp → Change
change_of named = record {
  direction = direction_number named.direction;
  operation = operation_number named.op.operation;
  name = named.op.name;
  value = named.op.value;
  rule = named.rule;
}

abbrev pub learnt_of : ℕ → Verdict → Learnt
learnt_of generation verdict = record {
  generation = generation;
  outcome = outcome_number verdict.outcome;
  rule = verdict.rule;
  target = verdict.target;
  changes = map change_of verdict.ops;
}

-- ---- what the parts show

-- the text that stands there
unfoldable pub text_at : List ℕ → ShownText → List ℕ
text_at bytes text = take text.length (drop text.from bytes)

abbrev pub rule_at : List ℕ → ShownRule → RuleName
rule_at bytes rule = record { ext = text_at bytes rule.extension; set = text_at bytes rule.ruleset; id = rule.id }

-- what stands there, if anything does
abbrev pub if_given : {X : Type 0} → Bool → X → Option X
if_given false x = None
if_given true x = Some x

abbrev pub change_at : List ℕ → ShownChange → Change
change_at bytes change = record {
  direction = change.direction;
  operation = change.operation;
  name = text_at bytes change.name;
  value = if_given change.has_value (text_at bytes change.value);
  rule = rule_at bytes change.rule;
}

abbrev pub learnt_at : List ℕ → ShownVerdict → List ShownChange → Learnt
learnt_at bytes verdict changes = record {
  generation = verdict.generation;
  outcome = verdict.outcome;
  rule = if_given verdict.has_rule (rule_at bytes verdict.rule);
  target = if_given verdict.has_target (text_at bytes verdict.target);
  changes = map (change_at bytes) changes;
}

-- the numbers, the bytes and as many changes as are counted show what is to be learnt
pub record Shows (learnt : Learnt) (verdict : ShownVerdict) (bytes : List ℕ) (changes : List ShownChange) : Type 0 where
  pub long : verdict.bytes ≤ length bytes
  pub many : verdict.changes ≤ length changes
  pub same : learnt_at bytes verdict (take verdict.changes changes) ≡ learnt

-- it is shown by so many bytes and so many changes, and there is room for fewer
pub record TakesMore (learnt : Learnt) (verdict : ShownVerdict) (room most : ℕ) : Type 0 where
  pub bytes : List ℕ
  pub changes : List ShownChange
  pub shows : Shows learnt verdict bytes changes
  pub long : length bytes ≡ verdict.bytes
  pub many : length changes ≡ verdict.changes
  pub more : (nat_le verdict.bytes room && nat_le verdict.changes most) ≡ false

abbrev pub IsUnshown : Learnt → ℕ → ℕ → ShowRefusal → Type 0
IsUnshown learnt room most (Room verdict) = TakesMore learnt verdict room most
IsUnshown learnt room most NoMemory = Unit {0}
