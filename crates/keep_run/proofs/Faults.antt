-- Why a line is at fault, and why an update is refused, where memory is not the cause.
use Rattle.std.proofs.Common.{◌≡◌, ◌≢◌, ◌⊎◌, ℕ, List, Option, Some, Result, Err, refl, inl, inr}
use Rattle.rule_spec.specs.declared.rule_refusal.RuleRefusal.{RuleRefusal}
use Rattle.rule_spec.specs.declared.rule_refusal.RuleRefusal.TheVariants as rule
use Rattle.update_spec.specs.declared.refusal.Refusal.{Refusal}
use Rattle.update_spec.specs.declared.refusal.Refusal.TheVariants as update
use Rattle.line_spec.specs.declared.line_fault.LineFault.{LineFault}
use Rattle.line_spec.specs.declared.line_fault.LineFault.TheVariants.{BadJson, BadCommand, BadUrl, RuleRefused, InBatch, NoMemory}
use Rattle.line_spec.specs.IsFault.{MayStopBy, IsFaultOfLine}
use Rattle.line_spec.specs.Line.{Command, command_of}
use Rattle.line_spec.specs.Stops.{StopsInLine}
use Rattle.ruleset_store.specs.Seen.{IsRefusalOf}

-- a fault of a line is what it reads as, or the host failed at it
faulty : (expected : Result Command LineFault) (stops : Type 0) (fault : LineFault) (cause : RuleRefusal) → MayStopBy expected stops fault cause → stops ⊎ (expected ≡ Err fault)
faulty expected stops fault rule.NotObject h = inr h
faulty expected stops fault rule.BadId h = inr h
faulty expected stops fault rule.DuplicateId h = inr h
faulty expected stops fault rule.BadPriority h = inr h
faulty expected stops fault (rule.BadField path) h = inr h
faulty expected stops fault rule.BothFilters h = inr h
faulty expected stops fault (rule.BadUrlFilter why) h = inr h
faulty expected stops fault rule.BadRegex h = inr h
faulty expected stops fault (rule.BadDomain path) h = inr h
faulty expected stops fault (rule.EmptyList path) h = inr h
faulty expected stops fault rule.BothTypeLists h = inr h
faulty expected stops fault rule.AllowAllTypes h = inr h
faulty expected stops fault (rule.BadHeaderTest path) h = inr h
faulty expected stops fault rule.TabsNotSession h = inr h
faulty expected stops fault rule.BadAction h = inr h
faulty expected stops fault rule.BadRedirect h = inr h
faulty expected stops fault rule.BadTransform h = inr h
faulty expected stops fault (rule.BadHeader why) h = inr h
faulty expected stops fault rule.HostFault h = inl h
faulty expected stops fault rule.NoMemory h = absurd h

pub line_faulty : (number : ℕ) (line : List ℕ) (rose : Type 0) (fault : LineFault) → fault ≢ NoMemory → IsFaultOfLine number line rose fault → (rose × StopsInLine line fault) ⊎ (command_of number line ≡ Err fault)
line_faulty number line rose BadJson named why = inr why
line_faulty number line rose (BadCommand path) named why = inr why
line_faulty number line rose (BadUrl path view) named why = inr why
line_faulty number line rose (RuleRefused refusal) named why = faulty (command_of number line) (rose × StopsInLine line (RuleRefused refusal)) (RuleRefused refusal) refusal.cause why
line_faulty number line rose (InBatch place refusal) named why = faulty (command_of number line) (rose × StopsInLine line (InBatch place refusal)) (InBatch place refusal) refusal.cause why
line_faulty number line rose NoMemory named why = absurd (named refl)

-- ---- causes of refusals

pub cause_named : (judged : Option Refusal) (why : Refusal) → why ≢ update.NoMemory → IsRefusalOf judged why → judged ≡ Some why
cause_named judged (update.NoExtension x) named why = why
cause_named judged (update.ExtensionThere x) named why = why
cause_named judged (update.NoRuleset x) named why = why
cause_named judged (update.DuplicateId x) named why = why
cause_named judged (update.NoStaticRule x) named why = why
cause_named judged (update.BothLists x) named why = why
cause_named judged (update.ExtensionLimit x) named why = why
cause_named judged (update.RulesetLimit x) named why = why
cause_named judged (update.RulesLimit x) named why = why
cause_named judged (update.EnabledLimit x) named why = why
cause_named judged (update.PoolLimit x) named why = why
cause_named judged (update.DynamicLimit x) named why = why
cause_named judged (update.UnsafeLimit x) named why = why
cause_named judged (update.SessionLimit x) named why = why
cause_named judged (update.RegexLimit x) named why = why
cause_named judged (update.DisabledLimit x) named why = why
cause_named judged (update.TooManyUpdates x) named why = why
cause_named judged update.NoMemory named why = absurd (named refl)
