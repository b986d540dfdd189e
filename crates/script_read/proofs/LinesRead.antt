-- A line that asks for updates, and why it is not read.
use Rattle.std.proofs.Common.{◌≡◌, ℕ, List, Option, Some, None, Ok, Err, refl, sym, ap, ◌∙◌, subst}
use Rattle.std.specs.Prelude.{IsSome}
use Rattle.serde_json.specs.Data.{Data, Members, Items}
use Rattle.serde_json.specs.Find.{as_object}
use Rattle.rule_spec.specs.declared.rule_refusal.RuleRefusal.{RuleRefusal}
use Rattle.rule_spec.specs.declared.rule_refusal.RuleRefusal.TheVariants as rule
use Rattle.rule_spec.specs.declared.placed_refusal.PlacedRefusal.{PlacedRefusal}
use Rattle.update_spec.specs.Update as updates
use Rattle.line_spec.specs.declared.command_name.CommandName.{CommandName}
use Rattle.line_spec.specs.declared.command_name.CommandName.TheVariants as name
use Rattle.line_spec.specs.declared.command_name.UpdateName.{UpdateName}
use Rattle.line_spec.specs.declared.line_fault.LineFault.{LineFault}
use Rattle.line_spec.specs.declared.line_fault.LineFault.TheVariants as line
use Rattle.line_spec.specs.declared.update_fault.UpdateFault.{UpdateFault}
use Rattle.line_spec.specs.declared.update_fault.UpdateFault.TheVariants.{BadField, RuleRefused, NoMemory}
use Rattle.line_spec.specs.Reading.{and_then}
use Rattle.line_spec.specs.CommandName.{name_in}
use Rattle.line_spec.specs.Updates.{update_in}
use Rattle.line_spec.specs.Batch.{fault_at, at_place, element_named, element_of, element_in, batch_in, updates_at}
use Rattle.line_spec.specs.Line.{update, batch, fault_of, of_line, command_named, command_of_members, command_in, command_of_tree}
use Rattle.line_spec.specs.Stops.{StopsInUpdate, StopsIn}
use Rattle.line_spec.specs.IsFault as lines
use Rattle.line_spec.specs.IsFault.{IsCalm}
use Rattle.rule_read.specs.Calm.{IsCalmBy}
use Rattle.script_read.specs.Asked.{Asks}
use Rattle.script_read.specs.Faults.{MayStopBy, MayRefuse, IsQuiet}
use Rattle.script_read.specs.Stops.{StopsInElement, StopsInList}

-- ---- an object

pub same_tree : (d e : Data) (tree : Option Data) → Some d ≡ tree → tree ≡ Some e → d ≡ e
same_tree d e tree a b = let both : Some d ≡ Some e = a ∙ b in cc

of_members : (n : ℕ) (d : Data) (members : Option Members) (c : CommandName) → IsSome members → name_in d ≡ Some c → command_of_members n d members ≡ command_named n d (Some c)
of_members n d None c some named = absurd (cc)
of_members n d (Some ms) c some named = ap (command_named n d) named

-- what an object asks for is what its line reads as
pub asked_for : (n : ℕ) (tree : Option Data) (c : CommandName) (asks : Asks tree c) → command_of_tree n tree ≡ command_named n asks.d (Some c)
unfolding command_in
asked_for n tree c asks = ap (command_of_tree n) asks.is ∙ of_members n asks.d (as_object asks.d) c asks.object asks.named

-- ---- an update

module _ (n : ℕ) (tree : Option Data) (which : UpdateName) (asks : Asks tree (name.Update which)) (rose : Type 0) where
  pub update_read : (u : updates.Update) → update_in which asks.d ≡ Ok u → command_of_tree n tree ≡ Ok (update u)
  update_read u h = asked_for n tree (name.Update which) asks ∙ ap (λ r. and_then (of_line r) (λ u. Ok (update u))) h

  update_stops_by : (refusal : PlacedRefusal) (cause : RuleRefusal) → MayStopBy (update_in which asks.d) (rose × StopsInUpdate which asks.d refusal) refusal cause
      → lines.MayStopBy (command_of_tree n tree) (rose × StopsIn tree (line.RuleRefused refusal)) (line.RuleRefused refusal) cause
  update_stops_by refusal rule.HostFault h =
      (h.0, subst (λ t. StopsIn t (line.RuleRefused refusal)) (sym asks.is) (record { update = which; named = asks.named; stops = h.1 }))
  update_stops_by refusal rule.NoMemory h = h
  update_stops_by refusal cause h = asked_for n tree (name.Update which) asks ∙ ap (λ r. and_then (of_line r) (λ u. Ok (update u))) h

  pub update_stops : (fault : UpdateFault) → MayRefuse (update_in which asks.d) (λ r. rose × StopsInUpdate which asks.d r) fault
      → lines.MayRefuse (command_of_tree n tree) (λ f. rose × StopsIn tree f) (fault_of fault)
  update_stops (BadField f) h = asked_for n tree (name.Update which) asks ∙ ap (λ r. and_then (of_line r) (λ u. Ok (update u))) h
  update_stops (RuleRefused refusal) h = update_stops_by refusal refusal.cause h
  update_stops NoMemory h = tt

calm_by : (before now : ℕ) (cause : RuleRefusal) → IsCalmBy before now cause → lines.IsCalmBy before now cause
calm_by before now rule.HostFault h = tt
calm_by before now cause h = h

pub update_calm : (X : Type 0) (before now : ℕ) (fault : UpdateFault) → IsQuiet before now fault → IsCalm {X = X} before now (Err (fault_of fault))
update_calm X before now (BadField f) h = h
update_calm X before now (RuleRefused refusal) h = calm_by before now refusal.cause h
update_calm X before now NoMemory h = h

-- ---- an update of a batch

of_element : (place : ℕ) (d : Data) (members : Option Members) (c : CommandName) → IsSome members → name_in d ≡ Some c → element_of place d members ≡ element_named place d (Some c)
of_element place d None c some named = absurd (cc)
of_element place d (Some ms) c some named = ap (element_named place d) named

module _ (place : ℕ) (d : Data) (which : UpdateName) (object : IsSome (as_object d)) (named : name_in d ≡ Some (name.Update which)) (rose : Type 0) where
  pub element_is : element_in place d ≡ at_place place (update_in which d)
  unfolding element_in
  element_is = of_element place d (as_object d) (name.Update which) object named

  element_stops_by : (refusal : PlacedRefusal) (cause : RuleRefusal) → MayStopBy (update_in which d) (rose × StopsInUpdate which d refusal) refusal cause
      → lines.MayStopBy (element_in place d) (rose × StopsInElement place d (line.InBatch place refusal)) (line.InBatch place refusal) cause
  element_stops_by refusal rule.HostFault h = (h.0, (refl, record { update = which; named = named; stops = h.1 }))
  element_stops_by refusal rule.NoMemory h = h
  element_stops_by refusal cause h = element_is ∙ ap (at_place place) h

  pub element_stops : (fault : UpdateFault) → MayRefuse (update_in which d) (λ r. rose × StopsInUpdate which d r) fault
      → lines.MayRefuse (element_in place d) (λ f. rose × StopsInElement place d f) (fault_at place fault)
  element_stops (BadField f) h = element_is ∙ ap (at_place place) h
  element_stops (RuleRefused refusal) h = element_stops_by refusal refusal.cause h
  element_stops NoMemory h = tt

pub element_calm : (X : Type 0) (place before now : ℕ) (fault : UpdateFault) → IsQuiet before now fault → IsCalm {X = X} before now (Err (fault_at place fault))
element_calm X place before now (BadField f) h = h
element_calm X place before now (RuleRefused refusal) h = calm_by before now refusal.cause h
element_calm X place before now NoMemory h = h

-- ---- a batch

module _ (n : ℕ) (tree : Option Data) (asks : Asks tree name.Batch) (rose : Type 0) where
  pub batch_read : (us : List updates.Update) → batch_in asks.d ≡ Ok us → command_of_tree n tree ≡ Ok (batch us)
  batch_read us h = asked_for n tree name.Batch asks ∙ ap (λ r. and_then r (λ us. Ok (batch us))) h

  in_batch : (place : ℕ) (refusal : PlacedRefusal) (found : Option Items) → updates_at asks.d ≡ found → StopsInList found (line.InBatch place refusal) → StopsIn tree (line.InBatch place refusal)
  in_batch place refusal None is h = absurd h
  in_batch place refusal (Some items) is h =
      subst (λ t. StopsIn t (line.InBatch place refusal)) (sym asks.is) (record { named = asks.named; items = items; listed = is; few = h.0; stops = h.1 })

  batch_stops_by : (place : ℕ) (refusal : PlacedRefusal) (cause : RuleRefusal)
      → lines.MayStopBy (batch_in asks.d) (rose × StopsInList (updates_at asks.d) (line.InBatch place refusal)) (line.InBatch place refusal) cause
      → lines.MayStopBy (command_of_tree n tree) (rose × StopsIn tree (line.InBatch place refusal)) (line.InBatch place refusal) cause
  batch_stops_by place refusal rule.HostFault h = (h.0, in_batch place refusal (updates_at asks.d) refl h.1)
  batch_stops_by place refusal rule.NoMemory h = h
  batch_stops_by place refusal cause h = asked_for n tree name.Batch asks ∙ ap (λ r. and_then r (λ us. Ok (batch us))) h

  no_rule : (found : Option Items) (refusal : PlacedRefusal) → StopsInList found (line.RuleRefused refusal) → ⊥
  no_rule None refusal h = h
  no_rule (Some items) refusal h = h.1

  alone_stops_by : (refusal : PlacedRefusal) (cause : RuleRefusal)
      → lines.MayStopBy (batch_in asks.d) (rose × StopsInList (updates_at asks.d) (line.RuleRefused refusal)) (line.RuleRefused refusal) cause
      → lines.MayStopBy (command_of_tree n tree) (rose × StopsIn tree (line.RuleRefused refusal)) (line.RuleRefused refusal) cause
  alone_stops_by refusal rule.HostFault h = absurd (no_rule (updates_at asks.d) refusal h.1)
  alone_stops_by refusal rule.NoMemory h = h
  alone_stops_by refusal cause h = asked_for n tree name.Batch asks ∙ ap (λ r. and_then r (λ us. Ok (batch us))) h

  pub batch_stops : (fault : LineFault) → lines.MayRefuse (batch_in asks.d) (λ f. rose × StopsInList (updates_at asks.d) f) fault
      → lines.MayRefuse (command_of_tree n tree) (λ f. rose × StopsIn tree f) fault
  batch_stops (line.RuleRefused refusal) h = alone_stops_by refusal refusal.cause h
  batch_stops (line.InBatch place refusal) h = batch_stops_by place refusal refusal.cause h
  batch_stops line.NoMemory h = tt
  batch_stops fault h = asked_for n tree name.Batch asks ∙ ap (λ r. and_then r (λ us. Ok (batch us))) h
