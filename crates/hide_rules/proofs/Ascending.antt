-- Texts in ascending order, each once.
use Rattle.std.proofs.Common.{◌≡◌, List, [], ◌∷◌, map, ℕ, true, ◌⊎◌, inl, inr, refl, sym, ap, ◌∙◌, ⊎_elim, String, Global, string_bytes, string_cmp}
use Rattle.std.specs.Prelude.{fold}
use Rattle.std.specs.BTreeSet.{insert_key}
use Rattle.std.specs.BTreeMap.{is_at}
use Rattle.std.specs.List.{AllByRecursion, list_any}
use Rattle.std.specs.List.Sorted.{IsStrictlySortedBy}
use Rattle.std.specs.Ordering.{match_ordering, ordering_reverse}
use Rattle.std.specs.declared.cmp.Ordering.{Ordering}
use Rattle.std.specs.declared.cmp.Ordering.TheVariants.{Less, Equal, Greater}
use Rattle.std.proofs.lemmas.Cmp.{nat_list_cmp_total}
use Rattle.std.proofs.lemmas.Map.Lookups.{btree_set_from_contains, exact_bytes}
use Rattle.hide_spec.specs.Hidden.{ascending}
use Rattle.hide_rules.specs.Merged.{Ascends, text_cmp}
use Rattle.hide_rules.specs.Members.{In}
use Rattle.hide_rules.proofs.Members.{same_answer, any_out, any_in}

by_order : {K : Type 0} (P : List K → Type 0) (o : Ordering) (xs ys zs : List K) → (o ≡ Less → P xs) → (o ≡ Equal → P ys) → (o ≡ Greater → P zs) → P (match_ordering o xs ys zs)
by_order P Less xs ys zs less equal greater = less refl
by_order P Equal xs ys zs less equal greater = equal refl
by_order P Greater xs ys zs less equal greater = greater refl

-- ---- order

all_further : (text next : List ℕ) (texts : List (List ℕ)) → text_cmp text next ≡ Less → AllByRecursion (λ t. text_cmp next t ≡ Less) texts → AllByRecursion (λ t. text_cmp text t ≡ Less) texts
all_further text next [] less all = tt
all_further text next (first ∷ texts) less all = (nat_list_cmp_total.trans text next first less all.0, all_further text next texts less all.1)

all_inserted : (P : List ℕ → Type 0) (text : List ℕ) (texts : List (List ℕ)) → P text → AllByRecursion P texts → AllByRecursion P (insert_key text_cmp texts text)
all_inserted P text [] p all = (p, tt)
all_inserted P text (first ∷ texts) p all =
    by_order (AllByRecursion P) (text_cmp text first) (text ∷ first ∷ texts) (first ∷ texts) (first ∷ insert_key text_cmp texts text)
    (λ less. (p, all))
    (λ equal. all)
    (λ greater. (all.0, all_inserted P text texts p all.1))

inserted_ascends : (text : List ℕ) (texts : List (List ℕ)) → Ascends texts → Ascends (insert_key text_cmp texts text)
unfolding IsStrictlySortedBy
inserted_ascends text [] h = (tt, tt)
inserted_ascends text (first ∷ texts) h =
    by_order Ascends (text_cmp text first) (text ∷ first ∷ texts) (first ∷ texts) (first ∷ insert_key text_cmp texts text)
    (λ less. ((less, all_further text first texts less h.0), h))
    (λ equal. h)
    (λ greater. (all_inserted (λ t. text_cmp first t ≡ Less) text texts (nat_list_cmp_total.antisymm first text ∙ ap ordering_reverse greater) h.0, inserted_ascends text texts h.1))

ascends_from : (texts some : List (List ℕ)) → Ascends some → Ascends (fold (insert_key text_cmp) some texts)
ascends_from [] some h = h
ascends_from (text ∷ texts) some h = ascends_from texts (insert_key text_cmp some text) (inserted_ascends text some h)

pub ascending_ascends : (texts : List (List ℕ)) → Ascends (ascending texts)
unfolding IsStrictlySortedBy
ascending_ascends texts = ascends_from texts [] tt

-- ---- members

inserted_is_in : (text : List ℕ) (texts : List (List ℕ)) → In text (insert_key text_cmp texts text)
inserted_is_in text [] = inl refl
inserted_is_in text (first ∷ texts) =
    by_order (In text) (text_cmp text first) (text ∷ first ∷ texts) (first ∷ texts) (first ∷ insert_key text_cmp texts text)
    (λ less. inl refl)
    (λ equal. inl (sym (exact_bytes text first equal)))
    (λ greater. inr (inserted_is_in text texts))

others_stay : (text other : List ℕ) (texts : List (List ℕ)) → In other texts → In other (insert_key text_cmp texts text)
others_stay text other [] i = absurd i
others_stay text other (first ∷ texts) i =
    by_order (In other) (text_cmp text first) (text ∷ first ∷ texts) (first ∷ texts) (first ∷ insert_key text_cmp texts text)
    (λ less. inr i)
    (λ equal. i)
    (λ greater. ⊎_elim (λ e. inl e) (λ later. inr (others_stay text other texts later)) i)

no_others : (text other : List ℕ) (texts : List (List ℕ)) → In other (insert_key text_cmp texts text) → (text ≡ other) ⊎ In other texts
no_others text other [] i = i
no_others text other (first ∷ texts) there =
    by_order (λ all. In other all → (text ≡ other) ⊎ In other (first ∷ texts)) (text_cmp text first) (text ∷ first ∷ texts) (first ∷ texts) (first ∷ insert_key text_cmp texts text)
    (λ less i. i)
    (λ equal i. inr i)
    (λ greater i. ⊎_elim (λ e. inr (inl e)) (λ later. ⊎_elim (λ e. inl e) (λ there. inr (inr there)) (no_others text other texts later)) i)
    there

stays_from : (texts some : List (List ℕ)) (text : List ℕ) → In text some → In text (fold (insert_key text_cmp) some texts)
stays_from [] some text i = i
stays_from (first ∷ texts) some text i = stays_from texts (insert_key text_cmp some first) text (others_stay first text some i)

in_from : (texts some : List (List ℕ)) (text : List ℕ) → In text texts → In text (fold (insert_key text_cmp) some texts)
in_from [] some text i = absurd i
in_from (first ∷ texts) some text i =
    ⊎_elim
    (λ e. stays_from texts (insert_key text_cmp some first) text (⊎_elim (λ p. p) (λ p. p) (inl (here e))))
    (λ later. in_from texts (insert_key text_cmp some first) text later)
    i
  where
    here : first ≡ text → In text (insert_key text_cmp some first)
    here e = rw (sym e) (inserted_is_in first some)

out_from : (texts some : List (List ℕ)) (text : List ℕ) → In text (fold (insert_key text_cmp) some texts) → In text texts ⊎ In text some
out_from [] some text i = inr i
out_from (first ∷ texts) some text i =
    ⊎_elim
    (λ later. inl (inr later))
    (λ there. ⊎_elim (λ e. inl (inl e)) (λ before. inr before) (no_others first text some there))
    (out_from texts (insert_key text_cmp some first) text i)

pub in_ascending : (texts : List (List ℕ)) (text : List ℕ) → In text texts → In text (ascending texts)
in_ascending texts text i = in_from texts [] text i

pub out_of_ascending : (texts : List (List ℕ)) (text : List ℕ) → In text (ascending texts) → In text texts
out_of_ascending texts text i = ⊎_elim (λ there. there) (λ none. absurd none) (out_from texts [] text i)

-- ---- ascending texts are their members

pub same_members : (texts others : List (List ℕ)) → Ascends texts → Ascends others → ((text : List ℕ) → In text texts → In text others) → ((text : List ℕ) → In text others → In text texts) → texts ≡ others
same_members texts others a b to from =
    btree_set_from_contains nat_list_cmp_total (record { keys = texts }) (record { keys = others }) a b (λ q. same_answer _ _ (has texts others q to) (has others texts q from)) exact_bytes
  where
    has : (some more : List (List ℕ)) (q : List ℕ) → ((text : List ℕ) → In text some → In text more) → list_any (is_at (text_cmp q)) some ≡ true → list_any (is_at (text_cmp q)) more ≡ true
    has some more q into any = let r = any_out (is_at (text_cmp q)) some any in any_in (is_at (text_cmp q)) r.0 more (into r.0 r.1) r.2

-- ---- strings

strings_all : (text : String Global) (strings : List (String Global)) → AllByRecursion (λ s. string_cmp text s ≡ Less) strings → AllByRecursion (λ t. text_cmp (string_bytes text) t ≡ Less) (map string_bytes strings)
strings_all text [] all = tt
strings_all text (first ∷ strings) all = (all.0, strings_all text strings all.1)

pub strings_ascend : (strings : List (String Global)) → IsStrictlySortedBy string_cmp strings → Ascends (map string_bytes strings)
unfolding IsStrictlySortedBy
strings_ascend [] h = tt
strings_ascend (first ∷ strings) h = (strings_all first strings h.0, strings_ascend strings h.1)
