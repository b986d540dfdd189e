-- Steps along the updates of a batch, up to the first at fault.
use Rattle.std.proofs.Common.{◌≡◌, ℕ, ◌+◌, ◌<◌, ◌≤◌, List, [], ◌∷◌, ◌++◌, length, drop, get_or, Result, Ok, Err, refl, sym, ap, ◌∙◌, subst, append_assoc, length-append, inl, inr, arith}
use Rattle.std.proofs.lemmas.List.{drop_more, drop_all, append-nil}
use Rattle.serde_json.specs.Data.{Items, item}
use Rattle.serde_json.specs.declared.value.Value.{Value}
use Rattle.serde_json.specs.View.{view, items_view}
use Rattle.rule_spec.specs.declared.rule_refusal.RuleRefusal.{RuleRefusal}
use Rattle.rule_spec.specs.declared.rule_refusal.RuleRefusal.TheVariants as rule
use Rattle.rule_spec.specs.declared.placed_refusal.PlacedRefusal.{PlacedRefusal}
use Rattle.update_spec.specs.Update.{Update}
use Rattle.line_spec.specs.declared.line_fault.LineFault.{LineFault}
use Rattle.line_spec.specs.declared.line_fault.LineFault.TheVariants.{RuleRefused, InBatch, NoMemory}
use Rattle.line_spec.specs.Reading.{and_then}
use Rattle.line_spec.specs.Batch.{element_in, elements_from}
use Rattle.line_spec.specs.IsFault.{MayStopBy, MayRefuse}
use Rattle.line_spec.specs.Stops.{StopsInElements}
use Rattle.ruleset_store.specs.declared.update.Update as store
use Rattle.ruleset_store.specs.Seen.{update_seen, updates_seen}
use Rattle.script_read.specs.Stops.{StopsInElement, StopsInEach}

-- what was read, before what is still to be read
abbrev pub before : List Update → Result (List Update) LineFault → Result (List Update) LineFault
before done rest = and_then rest (λ others. Ok (done ++ others))

pub record AreReadSoFar (values : List Value) (done : List Update) (next : ℕ) : Type 0 where
  pub same : elements_from 0 (items_view values) ≡ before done (elements_from next (items_view (drop next values)))
  pub stops : (place : ℕ) (refusal : PlacedRefusal) → StopsInElements next (items_view (drop next values)) place refusal → StopsInElements 0 (items_view values) place refusal

before-nil : (rest : Result (List Update) LineFault) → rest ≡ before [] rest
before-nil (Ok others) = refl
before-nil (Err fault) = refl

pub batch_begins : (values : List Value) → AreReadSoFar values [] 0
batch_begins values = record { same = before-nil _; stops = λ place refusal h. h }

before-cons : (done : List Update) (first : Update) (rest : Result (List Update) LineFault) → before done (and_then rest (λ others. Ok (first ∷ others))) ≡ before (done ++ first ∷ []) rest
before-cons done first (Ok others) = ap Ok (sym (append_assoc done (first ∷ []) others))
before-cons done first (Err fault) = refl

rest_is : (values : List Value) (next : ℕ) (value : Value) → next < length values → value ≡ get_or values next value → items_view (drop next values) ≡ item (view value) (items_view (drop (next + 1) values))
rest_is values next value inside is =
    ap items_view (drop_more values next value inside) ∙ ap (λ v. item (view v) (items_view (drop (next + 1) values))) (sym is)

abbrev with_first : ℕ → Items → Result Update LineFault → Result (List Update) LineFault
with_first next items reading = and_then reading (λ first. and_then (elements_from (next + 1) items) (λ others. Ok (first ∷ others)))

step : (values : List Value) (next : ℕ) (value : Value) (done : List Update) (reading : Result Update LineFault)
    → next < length values → value ≡ get_or values next value → AreReadSoFar values done next → element_in next (view value) ≡ reading
    → elements_from 0 (items_view values) ≡ before done (with_first next (items_view (drop (next + 1) values)) reading)
step values next value done reading inside is so_far read =
    so_far.same ∙ ap (λ items. before done (elements_from next items)) (rest_is values next value inside is)
    ∙ ap (λ r. before done (with_first next (items_view (drop (next + 1) values)) r)) read

pub batch_goes : (values : List Value) (next : ℕ) (value : Value) (done : List Update) (first : Update)
    → next < length values → value ≡ get_or values next value → AreReadSoFar values done next → element_in next (view value) ≡ Ok first
    → AreReadSoFar values (done ++ first ∷ []) (next + 1)
batch_goes values next value done first inside is so_far read =
    let items = items_view (drop (next + 1) values) in
    record {
      same = step values next value done (Ok first) inside is so_far read ∙ before-cons done first (elements_from (next + 1) items);
      stops = λ place refusal h.
          so_far.stops place refusal (subst (λ l. StopsInElements next l place refusal) (sym (rest_is values next value inside is)) (inr (first, read, h)));
    }

updates_more : (done : List store.Update) (update : store.Update) → updates_seen (done ++ update ∷ []) ≡ updates_seen done ++ update_seen update ∷ []
updates_more [] update = refl
updates_more (first ∷ done) update = ap (λ us. update_seen first ∷ us) (updates_more done update)

pub batch_goes_on : (values : List Value) (next place : ℕ) (value : Value) (done more : List store.Update) (update : store.Update)
    → next < length values → value ≡ get_or values next value → AreReadSoFar values (updates_seen done) next → place ≡ next
    → element_in place (view value) ≡ Ok (update_seen update) → more ≡ done ++ update ∷ [] → AreReadSoFar values (updates_seen more) (next + 1)
batch_goes_on values next place value done more update inside is so_far here read push =
    subst (λ us. AreReadSoFar values us (next + 1)) (sym (ap updates_seen push ∙ updates_more done update))
    (batch_goes values next value (updates_seen done) (update_seen update) inside is so_far (subst (λ at. element_in at (view value) ≡ Ok (update_seen update)) here read))

pub count_goes_on : (done more : List store.Update) (update : store.Update) (next : ℕ) → length done ≡ next → more ≡ done ++ update ∷ [] → length more ≡ next + 1
count_goes_on done more update next count push = ap length push ∙ simp length-append (omega (arith, count))

stops_by : (values : List Value) (next : ℕ) (value : Value) (done : List Update) (rose late : Type 0) (place : ℕ) (refusal : PlacedRefusal) (cause : RuleRefusal)
    → next < length values → value ≡ get_or values next value → AreReadSoFar values done next → (rose → late)
    → MayStopBy (element_in next (view value)) (rose × StopsInElement next (view value) (InBatch place refusal)) (InBatch place refusal) cause
    → MayStopBy (elements_from 0 (items_view values)) (late × StopsInEach 0 (items_view values) (InBatch place refusal)) (InBatch place refusal) cause
stops_by values next value done rose late place refusal rule.HostFault inside is so_far f h =
    (f h.0, so_far.stops place refusal (subst (λ l. StopsInElements next l place refusal) (sym (rest_is values next value inside is)) (inl h.1)))
stops_by values next value done rose late place refusal rule.NoMemory inside is so_far f h = h
stops_by values next value done rose late place refusal cause inside is so_far f h = step values next value done (Err (InBatch place refusal)) inside is so_far h

alone_by : (values : List Value) (next : ℕ) (value : Value) (done : List Update) (rose late : Type 0) (refusal : PlacedRefusal) (cause : RuleRefusal)
    → next < length values → value ≡ get_or values next value → AreReadSoFar values done next
    → MayStopBy (element_in next (view value)) (rose × StopsInElement next (view value) (RuleRefused refusal)) (RuleRefused refusal) cause
    → MayStopBy (elements_from 0 (items_view values)) (late × StopsInEach 0 (items_view values) (RuleRefused refusal)) (RuleRefused refusal) cause
alone_by values next value done rose late refusal rule.HostFault inside is so_far h = absurd h.1
alone_by values next value done rose late refusal rule.NoMemory inside is so_far h = h
alone_by values next value done rose late refusal cause inside is so_far h = step values next value done (Err (RuleRefused refusal)) inside is so_far h

pub batch_stops : (values : List Value) (next : ℕ) (value : Value) (done : List Update) (rose late : Type 0) (fault : LineFault)
    → next < length values → value ≡ get_or values next value → AreReadSoFar values done next → (rose → late)
    → MayRefuse (element_in next (view value)) (λ f. rose × StopsInElement next (view value) f) fault
    → MayRefuse (elements_from 0 (items_view values)) (λ f. late × StopsInEach 0 (items_view values) f) fault
batch_stops values next value done rose late (RuleRefused refusal) inside is so_far f h = alone_by values next value done rose late refusal refusal.cause inside is so_far h
batch_stops values next value done rose late (InBatch place refusal) inside is so_far f h = stops_by values next value done rose late place refusal refusal.cause inside is so_far f h
batch_stops values next value done rose late NoMemory inside is so_far f h = tt
batch_stops values next value done rose late fault inside is so_far f h = step values next value done (Err fault) inside is so_far h

pub batch_ends : (values : List Value) (next : ℕ) (done : List Update) → length values ≤ next → AreReadSoFar values done next → elements_from 0 (items_view values) ≡ Ok done
batch_ends values next done end so_far =
    so_far.same ∙ ap (λ vs. before done (elements_from next (items_view vs))) (drop_all next values end)
    ∙ ap Ok (append-nil done)
