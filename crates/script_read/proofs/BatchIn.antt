-- The list of updates of a batch, and why it is not read.
use Rattle.std.proofs.Common.{◌≡◌, ◌≤◌, true, Option, Some, sym, ap, ◌∙◌, subst, arith}
use Rattle.std.specs.Prelude.{nat_le}
use Rattle.serde_json.specs.Data.{Data, Items}
use Rattle.rule_spec.specs.declared.rule_refusal.RuleRefusal.{RuleRefusal}
use Rattle.rule_spec.specs.declared.rule_refusal.RuleRefusal.TheVariants as rule
use Rattle.std.proofs.lemmas.Bool.Decides.{nat_tests}
use Rattle.line_spec.specs.declared.line_fault.LineFault.{LineFault}
use Rattle.line_spec.specs.declared.line_fault.LineFault.TheVariants.{RuleRefused, InBatch, NoMemory}
use Rattle.line_spec.specs.RequestLine.{count_of}
use Rattle.line_spec.specs.Batch.{max_batch, elements_from, elements_of, batch_in, updates_at}
use Rattle.line_spec.specs.IsFault.{MayStopBy, MayRefuse}
use Rattle.script_read.specs.Stops.{StopsInEach, StopsInList}
use Rattle.script_read.proofs.Alike.{batch_alike, list_stops}
use Rattle.update_parts.specs.Batch.{HoldsBatch}

-- within the limits the list is its updates
within : (found : Option Items) (items : Items) → found ≡ Some items → 1 ≤ count_of items → count_of items ≤ max_batch → elements_of found ≡ elements_from 0 items
within found items is some few =
    let least : nat_le 1 (count_of items) ≡ true = grind (arith, nat_tests) in
    let most : nat_le (count_of items) max_batch ≡ true = grind (arith, nat_tests) in
    ap elements_of is ∙ rw (least, most)

stops_by : (found : Option Items) (items : Items) (rose : Type 0) (fault : LineFault) (cause : RuleRefusal) → found ≡ Some items → 1 ≤ count_of items → count_of items ≤ max_batch
    → MayStopBy (elements_from 0 items) (rose × StopsInEach 0 items fault) fault cause → MayStopBy (elements_of found) (rose × StopsInList found fault) fault cause
stops_by found items rose fault rule.HostFault is some few h = (h.0, subst (λ us. StopsInList us fault) (sym is) (few, h.1))
stops_by found items rose fault rule.NoMemory is some few h = h
stops_by found items rose fault cause is some few h = within found items is some few ∙ h

pub batch_is_refused : (found : Option Items) (items : Items) (rose : Type 0) (fault : LineFault) → found ≡ Some items → 1 ≤ count_of items → count_of items ≤ max_batch
    → MayRefuse (elements_from 0 items) (λ f. rose × StopsInEach 0 items f) fault → MayRefuse (elements_of found) (λ f. rose × StopsInList found f) fault
batch_is_refused found items rose (RuleRefused refusal) is some few h = stops_by found items rose (RuleRefused refusal) refusal.cause is some few h
batch_is_refused found items rose (InBatch place refusal) is some few h = stops_by found items rose (InBatch place refusal) refusal.cause is some few h
batch_is_refused found items rose NoMemory is some few h = tt
batch_is_refused found items rose fault is some few h = within found items is some few ∙ h

-- ---- what was kept of the batch

module _ (kept : Option Items) (d : Data) (holds : HoldsBatch kept d) (rose : Type 0) where
  whole_stops_by : (fault : LineFault) (cause : RuleRefusal) → MayStopBy (elements_of kept) (rose × StopsInList kept fault) fault cause → MayStopBy (batch_in d) (rose × StopsInList (updates_at d) fault) fault cause
  whole_stops_by fault rule.HostFault h = (h.0, list_stops kept (updates_at d) fault holds h.1)
  whole_stops_by fault rule.NoMemory h = h
  whole_stops_by fault cause h = sym (batch_alike kept d holds) ∙ h

  pub whole_is_refused : (fault : LineFault) → MayRefuse (elements_of kept) (λ f. rose × StopsInList kept f) fault → MayRefuse (batch_in d) (λ f. rose × StopsInList (updates_at d) f) fault
  whole_is_refused (RuleRefused refusal) h = whole_stops_by (RuleRefused refusal) refusal.cause h
  whole_is_refused (InBatch place refusal) h = whole_stops_by (InBatch place refusal) refusal.cause h
  whole_is_refused NoMemory h = tt
  whole_is_refused fault h = sym (batch_alike kept d holds) ∙ h
