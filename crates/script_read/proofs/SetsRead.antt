-- Steps along the rulesets of a list, up to the first at fault.
use Rattle.std.proofs.Common.{◌≡◌, ℕ, ◌+◌, ◌<◌, ◌≤◌, List, [], ◌∷◌, ◌++◌, length, drop, get_or, Result, Ok, Err, refl, sym, ap, ◌∙◌, subst, append_assoc, inl, inr}
use Rattle.std.proofs.lemmas.List.{drop_more, drop_all, append-nil}
use Rattle.serde_json.specs.Data.{Items, item}
use Rattle.serde_json.specs.declared.value.Value.{Value}
use Rattle.serde_json.specs.View.{view, items_view}
use Rattle.rule_spec.specs.declared.rule_refusal.RuleRefusal.{RuleRefusal}
use Rattle.rule_spec.specs.declared.rule_refusal.RuleRefusal.TheVariants as rule
use Rattle.rule_spec.specs.declared.placed_refusal.PlacedRefusal.{PlacedRefusal}
use Rattle.update_spec.specs.Update.{NewRuleSet}
use Rattle.line_spec.specs.declared.update_fault.UpdateFault.{UpdateFault}
use Rattle.line_spec.specs.declared.update_fault.UpdateFault.TheVariants.{BadField, RuleRefused, NoMemory}
use Rattle.line_spec.specs.Reading.{and_then}
use Rattle.line_spec.specs.Updates.{set_in, sets_from}
use Rattle.line_spec.specs.Stops.{StopsInSet, StopsInSets}
use Rattle.script_read.specs.Faults.{MayStopBy, MayRefuse}
use Rattle.script_read.specs.Sets.{ids_of}
use Rattle.script_read.proofs.SetIds.{ids_more}

-- what was read, before what is still to be read
abbrev pub before : List NewRuleSet → Result (List NewRuleSet) UpdateFault → Result (List NewRuleSet) UpdateFault
before done rest = and_then rest (λ others. Ok (done ++ others))

-- what is read behind those that were read
abbrev pub behind : List NewRuleSet → Items → Result (List NewRuleSet) UpdateFault
behind done items = sets_from (ids_of done) items

pub record AreReadSoFar (values : List Value) (done : List NewRuleSet) (next : ℕ) : Type 0 where
  pub same : sets_from [] (items_view values) ≡ before done (behind done (items_view (drop next values)))
  pub stops : (refusal : PlacedRefusal) → StopsInSets (ids_of done) (items_view (drop next values)) refusal → StopsInSets [] (items_view values) refusal

before-nil : (rest : Result (List NewRuleSet) UpdateFault) → rest ≡ before [] rest
before-nil (Ok others) = refl
before-nil (Err fault) = refl

pub sets_begin : (values : List Value) → AreReadSoFar values [] 0
sets_begin values = record { same = before-nil _; stops = λ refusal h. h }

before-cons : (done : List NewRuleSet) (first : NewRuleSet) (rest : Result (List NewRuleSet) UpdateFault) → before done (and_then rest (λ others. Ok (first ∷ others))) ≡ before (done ++ first ∷ []) rest
before-cons done first (Ok others) = ap Ok (sym (append_assoc done (first ∷ []) others))
before-cons done first (Err fault) = refl

rest_is : (values : List Value) (next : ℕ) (value : Value) → next < length values → value ≡ get_or values next value → items_view (drop next values) ≡ item (view value) (items_view (drop (next + 1) values))
rest_is values next value inside is =
    ap items_view (drop_more values next value inside) ∙ ap (λ v. item (view v) (items_view (drop (next + 1) values))) (sym is)

abbrev with_first : List NewRuleSet → Items → Result NewRuleSet UpdateFault → Result (List NewRuleSet) UpdateFault
with_first done items reading = and_then reading (λ first. and_then (sets_from (ids_of done ++ first.id ∷ []) items) (λ others. Ok (first ∷ others)))

step : (values : List Value) (next : ℕ) (value : Value) (done : List NewRuleSet) (reading : Result NewRuleSet UpdateFault)
    → next < length values → value ≡ get_or values next value → AreReadSoFar values done next → set_in (ids_of done) (view value) ≡ reading
    → sets_from [] (items_view values) ≡ before done (with_first done (items_view (drop (next + 1) values)) reading)
step values next value done reading inside is so_far read =
    so_far.same ∙ ap (λ items. before done (behind done items)) (rest_is values next value inside is)
    ∙ ap (λ r. before done (with_first done (items_view (drop (next + 1) values)) r)) read

pub sets_go : (values : List Value) (next : ℕ) (value : Value) (done : List NewRuleSet) (first : NewRuleSet)
    → next < length values → value ≡ get_or values next value → AreReadSoFar values done next → set_in (ids_of done) (view value) ≡ Ok first
    → AreReadSoFar values (done ++ first ∷ []) (next + 1)
sets_go values next value done first inside is so_far read =
    let items = items_view (drop (next + 1) values) in
    record {
      same = step values next value done (Ok first) inside is so_far read
          ∙ ap (λ ids. before done (and_then (sets_from ids items) (λ others. Ok (first ∷ others)))) (sym (ids_more done first))
          ∙ before-cons done first (behind (done ++ first ∷ []) items);
      stops = λ refusal h.
          so_far.stops refusal (subst (λ l. StopsInSets (ids_of done) l refusal) (sym (rest_is values next value inside is))
          (inr (first, read, subst (λ ids. StopsInSets ids items refusal) (ids_more done first) h)));
    }

stops_by : (values : List Value) (next : ℕ) (value : Value) (done : List NewRuleSet) (rose late : Type 0) (refusal : PlacedRefusal) (cause : RuleRefusal)
    → next < length values → value ≡ get_or values next value → AreReadSoFar values done next → (rose → late)
    → MayStopBy (set_in (ids_of done) (view value)) (rose × StopsInSet (ids_of done) (view value) refusal) refusal cause
    → MayStopBy (sets_from [] (items_view values)) (late × StopsInSets [] (items_view values) refusal) refusal cause
stops_by values next value done rose late refusal rule.HostFault inside is so_far f h =
    (f h.0, so_far.stops refusal (subst (λ l. StopsInSets (ids_of done) l refusal) (sym (rest_is values next value inside is)) (inl h.1)))
stops_by values next value done rose late refusal rule.NoMemory inside is so_far f h = h
stops_by values next value done rose late refusal cause inside is so_far f h = step values next value done (Err (RuleRefused refusal)) inside is so_far h

pub sets_stop : (values : List Value) (next : ℕ) (value : Value) (done : List NewRuleSet) (rose late : Type 0) (fault : UpdateFault)
    → next < length values → value ≡ get_or values next value → AreReadSoFar values done next → (rose → late)
    → MayRefuse (set_in (ids_of done) (view value)) (λ r. rose × StopsInSet (ids_of done) (view value) r) fault
    → MayRefuse (sets_from [] (items_view values)) (λ r. late × StopsInSets [] (items_view values) r) fault
sets_stop values next value done rose late (BadField field) inside is so_far f h = step values next value done (Err (BadField field)) inside is so_far h
sets_stop values next value done rose late (RuleRefused refusal) inside is so_far f h = stops_by values next value done rose late refusal refusal.cause inside is so_far f h
sets_stop values next value done rose late NoMemory inside is so_far f h = tt

pub sets_end : (values : List Value) (next : ℕ) (done : List NewRuleSet) → length values ≤ next → AreReadSoFar values done next → sets_from [] (items_view values) ≡ Ok done
sets_end values next done end so_far =
    so_far.same ∙ ap (λ vs. before done (behind done (items_view vs))) (drop_all next values end)
    ∙ ap Ok (append-nil done)
