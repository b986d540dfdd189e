-- Steps along the items of a list, each of which is read in one form.
use Rattle.std.proofs.Common.{◌≡◌, ℕ, ◌+◌, ◌<◌, ◌≤◌, List, [], ◌∷◌, ◌++◌, length, drop, get_or, Option, Some, None, refl, sym, ap, ◌∙◌, append_assoc}
use Rattle.std.specs.Prelude.{option_map, option_and_then}
use Rattle.std.proofs.lemmas.List.{drop_more, drop_all, append-nil}
use Rattle.serde_json.specs.Data.{Data, Items, item}
use Rattle.serde_json.specs.declared.value.Value.{Value}
use Rattle.serde_json.specs.View.{view, items_view}
use Rattle.json_spec.specs.RuleFields.{each}

-- what was read, before what is still to be read
abbrev pub before : {X : Type 0} → List X → Option (List X) → Option (List X)
before done rest = option_map (λ xs. done ++ xs) rest

pub record IsReadSoFar {X : Type 0} (form : Data → Option X) (values : List Value) (done : List X) (next : ℕ) : Type 0 where
  pub same : each form (items_view values) ≡ before done (each form (items_view (drop next values)))

before-nil : {X : Type 0} (rest : Option (List X)) → rest ≡ before [] rest
before-nil None = refl
before-nil (Some xs) = refl

pub read_begins : {X : Type 0} (form : Data → Option X) (values : List Value) → IsReadSoFar form values [] 0
read_begins form values = record { same = before-nil _ }

before-cons : {X : Type 0} (done : List X) (x : X) (rest : Option (List X)) → before done (option_map (λ xs. x ∷ xs) rest) ≡ before (done ++ x ∷ []) rest
before-cons done x None = refl
before-cons done x (Some xs) = ap Some (sym (append_assoc done (x ∷ []) xs))

rest_is : (values : List Value) (next : ℕ) (value : Value) → next < length values → value ≡ get_or values next value → items_view (drop next values) ≡ item (view value) (items_view (drop (next + 1) values))
rest_is values next value inside is =
    ap items_view (drop_more values next value inside) ∙ ap (λ v. item (view v) (items_view (drop (next + 1) values))) (sym is)

each-item : {X : Type 0} (form : Data → Option X) (d : Data) (items : Items) (o : Option X) → form d ≡ o → each form (item d items) ≡ option_and_then (λ x. option_map (λ xs. x ∷ xs) (each form items)) o
each-item form d items o is = ap (λ p. option_and_then (λ x. option_map (λ xs. x ∷ xs) (each form items)) p) is

pub read_goes : {X : Type 0} (form : Data → Option X) (values : List Value) (next : ℕ) (value : Value) (done : List X) (x : X)
    → next < length values → value ≡ get_or values next value → IsReadSoFar form values done next → form (view value) ≡ Some x → IsReadSoFar form values (done ++ x ∷ []) (next + 1)
read_goes form values next value done x inside is so_far read = record {
  same = so_far.same ∙ ap (λ items. before done (each form items)) (rest_is values next value inside is)
      ∙ ap (before done) (each-item form (view value) (items_view (drop (next + 1) values)) (Some x) read)
      ∙ before-cons done x (each form (items_view (drop (next + 1) values)));
}

pub read_stops : {X : Type 0} (form : Data → Option X) (values : List Value) (next : ℕ) (value : Value) (done : List X)
    → next < length values → value ≡ get_or values next value → IsReadSoFar form values done next → form (view value) ≡ None → each form (items_view values) ≡ None
read_stops form values next value done inside is so_far read =
    so_far.same ∙ ap (λ items. before done (each form items)) (rest_is values next value inside is)
    ∙ ap (before done) (each-item form (view value) (items_view (drop (next + 1) values)) None read)

pub read_ends : {X : Type 0} (form : Data → Option X) (values : List Value) (next : ℕ) (done : List X)
    → length values ≤ next → IsReadSoFar form values done next → each form (items_view values) ≡ Some done
read_ends form values next done end so_far =
    so_far.same ∙ ap (λ vs. before done (each form (items_view vs))) (drop_all next values end)
    ∙ ap Some (append-nil done)
