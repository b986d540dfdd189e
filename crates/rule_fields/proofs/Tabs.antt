-- A list of tabs without its repeats, and the set of those that were seen.
use Rattle.std.proofs.Common.{◌≡◌, ◌<◌, ◌+◌, ◌++◌, ◌||◌, ℕ, ℤ, pos, List, [], ◌∷◌, length, take, get_or, Bool, true, false, not, cond, refl, sym, ap, ◌∙◌}
use Rattle.std.specs.Ordering.{int_cmp, int_eq}
use Rattle.std.specs.BTreeSet.{BTreeSet, contains, Updates, IsUnchanged}
use Rattle.std.specs.BTreeMap.{is_at}
use Rattle.std.specs.List.{list_any}
use Rattle.std.proofs.lemmas.Bool.{not-true, not-false}
use Rattle.std.proofs.lemmas.Cmp.{int_eq_equiv}
use Rattle.std.proofs.lemmas.List.Sums.{fold_more}
use Rattle.std.proofs.lemmas.List.Folds.{list_any-append}
use Rattle.rule_spec.specs.Holds.{has_tab}
use Rattle.json_spec.specs.RuleFields.{with_tab, tab_set}

pub record IsTabSet (seen : BTreeSet ℤ) (set list : List ℤ) : Type 0 where
  pub same : set ≡ tab_set list
  pub has : (tab : ℤ) → contains int_cmp seen tab ≡ has_tab set tab

new_tab : (set : List ℤ) (tab : ℤ) → has_tab set tab ≡ false → with_tab set tab ≡ set ++ tab ∷ []
new_tab set tab absent = ap (λ b. cond b set (set ++ tab ∷ [])) absent

old_tab : (set : List ℤ) (tab : ℤ) → has_tab set tab ≡ true → with_tab set tab ≡ set
old_tab set tab given = ap (λ b. cond b set (set ++ tab ∷ [])) given

grown : (list : List ℤ) (i : ℕ) (tab : ℤ) → i < length list → tab ≡ get_or list i (pos 0) → tab_set (take (i + 1) list) ≡ with_tab (tab_set (take i list)) tab
grown list i tab inside is = fold_more with_tab [] list i (pos 0) inside ∙ ap (with_tab (tab_set (take i list))) (sym is)

one_more : (same taken : Bool) → cond same true taken ≡ (taken || same)
one_more true true = refl
one_more true false = refl
one_more false true = refl
one_more false false = refl

or_false : (b : Bool) → (b || false) ≡ b
or_false true = refl
or_false false = refl

has_tab-append : (set : List ℤ) (tab other : ℤ) → has_tab (set ++ tab ∷ []) other ≡ (has_tab set other || int_eq other tab)
has_tab-append set tab other = list_any-append (λ t. int_eq other t) set (tab ∷ []) ∙ ap (λ b. has_tab set other || b) (or_false (int_eq other tab))

turned : (a b : ℤ) → int_eq a b ≡ int_eq b a
turned a b = int_eq_equiv.symm a b

pub tab_is_new : (seen more : BTreeSet ℤ) (set longer list : List ℤ) (i : ℕ) (tab : ℤ) → i < length list → tab ≡ get_or list i (pos 0)
    → IsTabSet seen set (take i list) → true ≡ not (contains int_cmp seen tab) → Updates int_cmp seen more tab true → longer ≡ set ++ tab ∷ []
    → IsTabSet more longer (take (i + 1) list)
tab_is_new seen more set longer list i tab inside is so_far added updates push =
    let absent : has_tab set tab ≡ false = sym (so_far.has tab) ∙ not-true (contains int_cmp seen tab) (sym added) in
    record {
      same = push ∙ sym (new_tab set tab absent) ∙ ap (λ s. with_tab s tab) so_far.same ∙ sym (grown list i tab inside is);
      has = λ other. updates.0 other ∙ one_more (int_eq tab other) (contains int_cmp seen other) ∙ ap (λ b. b || int_eq tab other) (so_far.has other)
          ∙ ap (λ b. has_tab set other || b) (turned tab other) ∙ sym (has_tab-append set tab other) ∙ ap (λ s. has_tab s other) (sym push);
    }

pub tab_is_old : (seen more : BTreeSet ℤ) (set list : List ℤ) (i : ℕ) (tab : ℤ) → i < length list → tab ≡ get_or list i (pos 0)
    → IsTabSet seen set (take i list) → false ≡ not (contains int_cmp seen tab) → IsUnchanged seen more
    → IsTabSet more set (take (i + 1) list)
tab_is_old seen more set list i tab inside is so_far added kept =
    let given : has_tab set tab ≡ true = sym (so_far.has tab) ∙ not-false (contains int_cmp seen tab) (sym added) in
    record {
      same = so_far.same ∙ sym (old_tab (tab_set (take i list)) tab (ap (λ s. has_tab s tab) (sym so_far.same) ∙ given)) ∙ sym (grown list i tab inside is);
      has = λ other. ap (λ ks. list_any (is_at (int_cmp other)) ks) kept ∙ so_far.has other;
    }
