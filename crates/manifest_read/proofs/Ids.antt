-- The ids of resources, and the set of those that are taken.
use Rattle.std.proofs.Common.{◌≡◌, ℕ, List, [], ◌∷◌, ◌++◌, map, Bool, true, false, cond, not, ◌||◌, ◌&&◌, Option, Some, None, Ok, refl, sym, ap, ◌∙◌, String, Global}
use Rattle.std.specs.Prelude.{option_and_then, ok_or, string_bytes, if◌then◌else◌}
use Rattle.std.specs.List.{list_any}
use Rattle.std.specs.Str.{bytes_eq}
use Rattle.std.specs.Cmp.Lexicographic.{slice_cmp, nat_list_eq_equiv}
use Rattle.std.specs.Ordering.{nat_cmp}
use Rattle.std.specs.BTreeMap.{is_at}
use Rattle.std.specs.BTreeSet.{BTreeSet, contains_text}
use Rattle.std.proofs.lemmas.List.Folds.{list_any-append}
use Rattle.std.proofs.lemmas.Map.Text.{is_eq-slice_cmp}
use Rattle.serde_json.specs.Data.{Data}
use Rattle.json_spec.specs.Json.{text_at}
use Rattle.load_spec.specs.ManifestPath.{path_name}
use Rattle.load_spec.specs.declared.manifest_path.ManifestPath.TheVariants as path
use Rattle.load_spec.specs.Manifest.{Resource, and_then, passing, has_text, is_set_id, is_new_id, id_in, enabled_in, path_in, resource_in}
use Rattle.manifest_read.specs.Reading.{ids_of, ids_in, Taken, AddsId}

pub ids_more : (resources : List Resource) (resource : Resource) → ids_of (resources ++ resource ∷ []) ≡ ids_of resources ++ resource.id ∷ []
ids_more [] resource = refl
ids_more (first ∷ resources) resource = ap (λ ids. first.id ∷ ids) (ids_more resources resource)

-- ---- the set

among : (keys : List (String Global)) (id : List ℕ) → list_any (is_at (λ key. slice_cmp nat_cmp id (string_bytes key))) keys ≡ list_any (λ key. bytes_eq id (string_bytes key)) keys
among [] id = refl
among (key ∷ keys) id =
    ap (λ b. b || list_any (is_at (λ key. slice_cmp nat_cmp id (string_bytes key))) keys) (is_eq-slice_cmp id (string_bytes key))
    ∙ ap (λ b. bytes_eq id (string_bytes key) || b) (among keys id)

as_texts : (keys : List (String Global)) (id : List ℕ) → list_any (λ key. bytes_eq id (string_bytes key)) keys ≡ has_text (map string_bytes keys) id
as_texts [] id = refl
as_texts (key ∷ keys) id = ap (λ b. bytes_eq id (string_bytes key) || b) (as_texts keys id)

pub text_among : (set : BTreeSet (String Global)) (id : List ℕ) → contains_text set id ≡ has_text (ids_in set) id
text_among set id = among set.keys id ∙ as_texts set.keys id

pub none_taken : (taken : BTreeSet (String Global)) → taken.keys ≡ [] → Taken taken []
none_taken taken empty id = ap (λ keys. list_any (is_at (λ key. slice_cmp nat_cmp id (string_bytes key))) keys) empty

pub or_cond : (old new : Bool) → cond new true old ≡ (old || new)
or_cond true true = refl
or_cond true false = refl
or_cond false true = refl
or_cond false false = refl

one_more : (b : Bool) → b ≡ (b || false)
one_more true = refl
one_more false = refl

has_more : (resources : List Resource) (resource : Resource) (id : List ℕ) → has_text (ids_of (resources ++ resource ∷ [])) id ≡ (has_text (ids_of resources) id || bytes_eq resource.id id)
has_more resources resource id =
    ap (λ ids. has_text ids id) (ids_more resources resource)
    ∙ list_any-append (λ other. bytes_eq id other) (ids_of resources) (resource.id ∷ [])
    ∙ ap (λ b. has_text (ids_of resources) id || b) (sym (one_more (bytes_eq id resource.id)) ∙ nat_list_eq_equiv.symm id resource.id)

pub takes_more : (old new : BTreeSet (String Global)) (resources : List Resource) (resource : Resource) → Taken old resources → AddsId old new resource.id → Taken new (resources ++ resource ∷ [])
takes_more old new resources resource taken adds id =
    adds id ∙ ap (λ b. b || bytes_eq resource.id id) (taken id) ∙ sym (has_more resources resource id)

-- ---- a resource depends on the ids of others by what is among them alone

passes_same : (some others : List (List ℕ)) (id : Option (List ℕ)) → ((text : List ℕ) → has_text some text ≡ has_text others text)
    → option_and_then (passing (is_new_id some)) id ≡ option_and_then (passing (is_new_id others)) id
passes_same some others None same = refl
passes_same some others (Some text) same = ap (λ has. if is_set_id text && not has then Some text else None) (same text)

id_same : (some others : List (List ℕ)) (d : Data) → ((text : List ℕ) → has_text some text ≡ has_text others text) → id_in some d ≡ id_in others d
unfolding id_in
id_same some others d same = ap (λ id. ok_or id path.Id) (passes_same some others (text_at (path_name path.Id) d) same)

pub resource_same : (taken : BTreeSet (String Global)) (resources : List Resource) (d : Data) → Taken taken resources → resource_in (ids_in taken) d ≡ resource_in (ids_of resources) d
unfolding resource_in
resource_same taken resources d same =
    ap (λ reading. and_then reading (λ id. and_then (enabled_in d) (λ enabled. and_then (path_in d) (λ text. Ok (record { id = id; enabled = enabled; path = text })))))
    (id_same (ids_in taken) (ids_of resources) d (λ text. sym (text_among taken text) ∙ same text))
