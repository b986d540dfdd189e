-- Steps along the resources of a list, up to the first at fault.
use Rattle.std.proofs.Common.{◌≡◌, ℕ, ◌+◌, ◌<◌, ◌≤◌, List, [], ◌∷◌, ◌++◌, length, drop, get_or, Result, Ok, Err, refl, sym, ap, ◌∙◌, append_assoc, String, Global}
use Rattle.std.specs.BTreeSet.{BTreeSet}
use Rattle.std.proofs.lemmas.List.{drop_more, drop_all, append-nil}
use Rattle.serde_json.specs.Data.{Items, item}
use Rattle.serde_json.specs.declared.value.Value.{Value}
use Rattle.serde_json.specs.View.{view, items_view}
use Rattle.load_spec.specs.declared.manifest_path.ManifestPath.{ManifestPath}
use Rattle.load_spec.specs.Manifest.{Resource, and_then, resource_in, resources_in}
use Rattle.manifest_read.specs.declared.fault.Fault.{Fault}
use Rattle.manifest_read.specs.declared.fault.Fault.TheVariants.{BadJson, At, NoMemory}
use Rattle.manifest_read.specs.Reading.{ids_of, ids_in, Taken, IsFaultOf}
use Rattle.manifest_read.proofs.Ids.{ids_more, resource_same}

-- what was read, before what is still to be read
abbrev pub before : List Resource → Result (List Resource) ManifestPath → Result (List Resource) ManifestPath
before done rest = and_then rest (λ others. Ok (done ++ others))

-- what is read behind those that were read
abbrev pub behind : List Resource → Items → Result (List Resource) ManifestPath
behind done items = resources_in (ids_of done) items

pub record AreReadSoFar (values : List Value) (done : List Resource) (next : ℕ) : Type 0 where
  pub same : resources_in [] (items_view values) ≡ before done (behind done (items_view (drop next values)))

before-nil : (rest : Result (List Resource) ManifestPath) → rest ≡ before [] rest
before-nil (Ok others) = refl
before-nil (Err field) = refl

pub resources_begin : (values : List Value) → AreReadSoFar values [] 0
resources_begin values = record { same = before-nil _ }

before-cons : (done : List Resource) (first : Resource) (rest : Result (List Resource) ManifestPath) → before done (and_then rest (λ others. Ok (first ∷ others))) ≡ before (done ++ first ∷ []) rest
before-cons done first (Ok others) = ap Ok (sym (append_assoc done (first ∷ []) others))
before-cons done first (Err field) = refl

rest_is : (values : List Value) (next : ℕ) (value : Value) → next < length values → value ≡ get_or values next value → items_view (drop next values) ≡ item (view value) (items_view (drop (next + 1) values))
rest_is values next value inside is =
    ap items_view (drop_more values next value inside) ∙ ap (λ v. item (view v) (items_view (drop (next + 1) values))) (sym is)

abbrev with_first : List Resource → Items → Result Resource ManifestPath → Result (List Resource) ManifestPath
with_first done items reading = and_then reading (λ first. and_then (resources_in (ids_of done ++ first.id ∷ []) items) (λ others. Ok (first ∷ others)))

step : (values : List Value) (next : ℕ) (value : Value) (done : List Resource) (reading : Result Resource ManifestPath)
    → next < length values → value ≡ get_or values next value → AreReadSoFar values done next → resource_in (ids_of done) (view value) ≡ reading
    → resources_in [] (items_view values) ≡ before done (with_first done (items_view (drop (next + 1) values)) reading)
step values next value done reading inside is so_far read =
    so_far.same ∙ ap (λ items. before done (behind done items)) (rest_is values next value inside is)
    ∙ ap (λ r. before done (with_first done (items_view (drop (next + 1) values)) r)) read

pub resources_go : (values : List Value) (next : ℕ) (value : Value) (taken : BTreeSet (String Global)) (done : List Resource) (first : Resource)
    → next < length values → value ≡ get_or values next value → Taken taken done → AreReadSoFar values done next → resource_in (ids_in taken) (view value) ≡ Ok first
    → AreReadSoFar values (done ++ first ∷ []) (next + 1)
resources_go values next value taken done first inside is ids so_far read =
    let items = items_view (drop (next + 1) values) in
    let one = sym (resource_same taken done (view value) ids) ∙ read in
    record {
      same = step values next value done (Ok first) inside is so_far one
          ∙ ap (λ ids. before done (and_then (resources_in ids items) (λ others. Ok (first ∷ others)))) (sym (ids_more done first))
          ∙ before-cons done first (behind (done ++ first ∷ []) items);
    }

pub resources_stop : (values : List Value) (next : ℕ) (value : Value) (taken : BTreeSet (String Global)) (done : List Resource) (fault : Fault)
    → next < length values → value ≡ get_or values next value → Taken taken done → AreReadSoFar values done next → IsFaultOf (resource_in (ids_in taken) (view value)) fault
    → IsFaultOf (resources_in [] (items_view values)) fault
resources_stop values next value taken done BadJson inside is ids so_far h = h
resources_stop values next value taken done (At field) inside is ids so_far h = step values next value done (Err field) inside is so_far (sym (resource_same taken done (view value) ids) ∙ h)
resources_stop values next value taken done NoMemory inside is ids so_far h = h

pub resources_end : (values : List Value) (next : ℕ) (done : List Resource) → length values ≤ next → AreReadSoFar values done next → resources_in [] (items_view values) ≡ Ok done
resources_end values next done end so_far =
    so_far.same ∙ ap (λ vs. before done (behind done (items_view vs))) (drop_all next values end)
    ∙ ap Ok (append-nil done)
