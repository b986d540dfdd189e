-- The ids of rulesets that were read.
use Rattle.std.proofs.Common.{◌≡◌, ℕ, List, [], ◌∷◌, ◌++◌, Bool, true, false, cond, ◌||◌, refl, sym, ap, ◌∙◌, String, Global}
use Rattle.std.specs.Prelude.{string_bytes}
use Rattle.std.specs.List.{list_any}
use Rattle.std.specs.Str.{bytes_eq}
use Rattle.std.specs.Cmp.Lexicographic.{slice_cmp, nat_list_eq_equiv}
use Rattle.std.specs.Ordering.{nat_cmp}
use Rattle.std.specs.BTreeMap.{is_at}
use Rattle.std.specs.BTreeSet.{BTreeSet, contains_text}
use Rattle.std.proofs.lemmas.List.Folds.{list_any-append}
use Rattle.update_spec.specs.Update.{NewRuleSet}
use Rattle.load_spec.specs.Manifest.{has_text}
use Rattle.script_read.specs.Sets.{ids_of, HasIdsOf}

pub ids_more : (sets : List NewRuleSet) (set : NewRuleSet) → ids_of (sets ++ set ∷ []) ≡ ids_of sets ++ set.id ∷ []
ids_more [] set = refl
ids_more (first ∷ sets) set = ap (λ ids. first.id ∷ ids) (ids_more sets set)

pub no_ids : (ids : BTreeSet (String Global)) → ids.keys ≡ [] → HasIdsOf ids []
no_ids ids empty id = ap (λ keys. list_any (is_at (λ key. slice_cmp nat_cmp id (string_bytes key))) keys) empty

or_cond : (old new : Bool) → cond new true old ≡ (old || new)
or_cond true true = refl
or_cond true false = refl
or_cond false true = refl
or_cond false false = refl

one_more : (b : Bool) → b ≡ (b || false)
one_more true = refl
one_more false = refl

has_more : (sets : List NewRuleSet) (set : NewRuleSet) (id : List ℕ) → has_text (ids_of (sets ++ set ∷ [])) id ≡ (has_text (ids_of sets) id || bytes_eq set.id id)
has_more sets set id =
    ap (λ ids. has_text ids id) (ids_more sets set)
    ∙ list_any-append (λ other. bytes_eq id other) (ids_of sets) (set.id ∷ [])
    ∙ ap (λ b. has_text (ids_of sets) id || b) (sym (one_more (bytes_eq id set.id)) ∙ nat_list_eq_equiv.symm id set.id)

pub takes_more : (old new : BTreeSet (String Global)) (sets : List NewRuleSet) (set : NewRuleSet) → HasIdsOf old sets
    → ((id : List ℕ) → contains_text new id ≡ cond (bytes_eq set.id id) true (contains_text old id)) → HasIdsOf new (sets ++ set ∷ [])
takes_more old new sets set had adds id =
    adds id ∙ or_cond (contains_text old id) (bytes_eq set.id id) ∙ ap (λ b. b || bytes_eq set.id id) (had id) ∙ sym (has_more sets set id)
