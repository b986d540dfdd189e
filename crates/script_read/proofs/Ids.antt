-- Steps along whole numbers, of which those are kept that a rule may have as its id.
use Rattle.std.proofs.Common.{◌≡◌, ℕ, ◌+◌, ◌<◌, ◌≤◌, ℤ, List, [], ◌∷◌, ◌++◌, length, drop, get_or, Option, Some, None, refl, sym, ap, ◌∙◌, append_assoc}
use Rattle.std.specs.Prelude.{option_map, option_and_then}
use Rattle.std.specs.List.{filter_map}
use Rattle.std.proofs.lemmas.List.{drop_more, drop_all, append-nil}
use Rattle.serde_json.specs.Data.{item}
use Rattle.serde_json.specs.declared.value.Value.{Value}
use Rattle.serde_json.specs.View.{view, items_view}
use Rattle.json_spec.specs.RuleFields.{each}
use Rattle.line_spec.specs.Updates.{as_whole, rule_id}
use Rattle.script_read.specs.Ids.{ids_in, with_id}

-- what was read, before what is still to be read
abbrev pub before : List ℕ → Option (List ℕ) → Option (List ℕ)
before done rest = option_map (λ xs. done ++ xs) rest

pub record AreReadSoFar (values : List Value) (done : List ℕ) (next : ℕ) : Type 0 where
  pub same : ids_in (items_view values) ≡ before done (ids_in (items_view (drop next values)))

before-nil : (rest : Option (List ℕ)) → rest ≡ before [] rest
before-nil None = refl
before-nil (Some xs) = refl

pub ids_begin : (values : List Value) → AreReadSoFar values [] 0
ids_begin values = record { same = before-nil _ }

rest_is : (values : List Value) (next : ℕ) (value : Value) → next < length values → value ≡ get_or values next value → items_view (drop next values) ≡ item (view value) (items_view (drop (next + 1) values))
rest_is values next value inside is =
    ap items_view (drop_more values next value inside) ∙ ap (λ v. item (view v) (items_view (drop (next + 1) values))) (sym is)

-- the ids of a list that begins with this number
abbrev led : Option ℤ → Option (List ℤ) → Option (List ℕ)
led first rest = option_map (filter_map rule_id) (option_and_then (λ x. option_map (λ xs. x ∷ xs) rest) first)

led_by : (done : List ℕ) (z : ℤ) (o : Option ℕ) (rest : Option (List ℤ)) → rule_id z ≡ o → before done (led (Some z) rest) ≡ before (with_id o done) (option_map (filter_map rule_id) rest)
led_by done z None None is = refl
led_by done z None (Some xs) is = rw is
led_by done z (Some id) None is = refl
led_by done z (Some id) (Some xs) is = rw is (ap Some (sym (append_assoc done (id ∷ []) (filter_map rule_id xs))))

led_is : (done : List ℕ) (w : Option ℤ) (o : Option ℕ) (rest : Option (List ℤ)) → option_map rule_id w ≡ Some o → before done (led w rest) ≡ before (with_id o done) (option_map (filter_map rule_id) rest)
led_is done None o rest is = absurd (cc)
led_is done (Some z) o rest is = led_by done z o rest (cc)

pub ids_go : (values : List Value) (next : ℕ) (value : Value) (done : List ℕ) (o : Option ℕ) → next < length values → value ≡ get_or values next value
    → AreReadSoFar values done next → option_map rule_id (as_whole (view value)) ≡ Some o → AreReadSoFar values (with_id o done) (next + 1)
ids_go values next value done o inside is so_far read = record {
  same = so_far.same ∙ ap (λ items. before done (ids_in items)) (rest_is values next value inside is)
      ∙ led_is done (as_whole (view value)) o (each as_whole (items_view (drop (next + 1) values))) read;
}

none_led : (done : List ℕ) (w : Option ℤ) (rest : Option (List ℤ)) → option_map rule_id w ≡ None → before done (led w rest) ≡ None
none_led done None rest is = refl
none_led done (Some z) rest is = absurd (cc)

pub ids_stop : (values : List Value) (next : ℕ) (value : Value) (done : List ℕ) → next < length values → value ≡ get_or values next value
    → AreReadSoFar values done next → option_map rule_id (as_whole (view value)) ≡ None → ids_in (items_view values) ≡ None
ids_stop values next value done inside is so_far read =
    so_far.same ∙ ap (λ items. before done (ids_in items)) (rest_is values next value inside is)
    ∙ none_led done (as_whole (view value)) (each as_whole (items_view (drop (next + 1) values))) read

pub ids_end : (values : List Value) (next : ℕ) (done : List ℕ) → length values ≤ next → AreReadSoFar values done next → ids_in (items_view values) ≡ Some done
ids_end values next done end so_far =
    so_far.same ∙ ap (λ vs. before done (ids_in (items_view vs))) (drop_all next values end)
    ∙ ap Some (append-nil done)
