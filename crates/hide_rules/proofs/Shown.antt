-- What a page shows by an index is what its lines hide.
use Rattle.std.proofs.Common.{◌≡◌, ℕ, List, [], ◌∷◌, ◌++◌, append_assoc, cond, map, Bool, true, false, not, ◌&&◌, ◌||◌, refl, sym, ap, ◌∙◌, subst, ⊎_elim, String, Global, string_bytes, string_cmp, nat_cmp}
use Rattle.std.specs.Prelude.{filter}
use Rattle.std.specs.BTreeMap.{is_at}
use Rattle.std.specs.BTreeSet.{BTreeSet, contains_text}
use Rattle.std.specs.Cmp.Lexicographic.{slice_cmp}
use Rattle.std.specs.List.{list_any}
use Rattle.std.specs.List.Sorted.{IsStrictlySortedBy}
use Rattle.std.specs.Ordering.{eq_by_cmp}
use Rattle.std.specs.Set.{IsUnion, is_member}
use Rattle.std.specs.Str.{bytes_eq}
use Rattle.std.proofs.lemmas.Bool.{and_parts, and_from, or_cases}
use Rattle.std.proofs.lemmas.List.Kept.{IsStrictlySortedBy-filter}
use Rattle.std.proofs.lemmas.Map.Text.{is_eq-slice_cmp}
use Rattle.std.proofs.lemmas.Slice.Eq.{bytes_eq-Decides}
use Rattle.hide_spec.specs.HidingLine.{HidingLine}
use Rattle.hide_rules.specs.declared.index.Index.{Index}
use Rattle.hide_rules.specs.Ends.{applies_by}
use Rattle.hide_rules.specs.Index.{Indexes, found_for, is_shown}
use Rattle.hide_rules.specs.Listings.{is_general}
use Rattle.hide_rules.specs.Members.{In}
use Rattle.hide_rules.specs.Merged.{IsMerged, text_cmp}
use Rattle.hide_rules.specs.Page.{is_kept, hides_by, hidden_by}
use Rattle.hide_rules.specs.Selectors.{HasSelectors, is_kind, speaks_of}
use Rattle.hide_rules.proofs.Ascending.{ascending_ascends, in_ascending, out_of_ascending, same_members, strings_ascend}
use Rattle.hide_rules.proofs.Members.{same_answer, any_out, any_in, in_filtered, in_unfiltered, in_mapped, in_unmapped}
use Rattle.hide_rules.proofs.Places.{index_splits}

same_text : (text other : List ℕ) → bytes_eq text other ≡ true → text ≡ other
same_text text other e = (bytes_eq-Decides text other).0 e

own_text : (text : List ℕ) → bytes_eq text text ≡ true
own_text text = (bytes_eq-Decides text text).1 refl

has_text : (text : List ℕ) (texts : List (List ℕ)) → In text texts → list_any (bytes_eq text) texts ≡ true
has_text text texts i = any_in (bytes_eq text) text texts i (own_text text)

text_in : (text : List ℕ) (texts : List (List ℕ)) → list_any (bytes_eq text) texts ≡ true → In text texts
text_in text texts any = let r = any_out (bytes_eq text) texts any in subst (λ (t : List ℕ). In t texts) (sym (same_text text r.0 r.2)) r.1

-- ---- sets that are merged

key_of_text : (text : List ℕ) (keys : List (String Global)) → list_any (is_at (λ k. slice_cmp nat_cmp text (string_bytes k))) keys ≡ true → (key : String Global) × In key keys × (text ≡ string_bytes key)
key_of_text text keys any =
    let r = any_out (is_at (λ k. slice_cmp nat_cmp text (string_bytes k))) keys any in
    (r.0, r.1, same_text text (string_bytes r.0) (sym (is_eq-slice_cmp text (string_bytes r.0)) ∙ r.2))

module _ (first second : BTreeSet (String Global)) (keys : List (String Global)) (is_union : IsUnion (eq_by_cmp string_cmp) first.keys second.keys keys) where
  from_keys : (text : List ℕ) → In text (map string_bytes keys) → (contains_text first text || contains_text second text) ≡ true
  from_keys text i =
      let r = in_unmapped string_bytes text keys i in
      let own : eq_by_cmp string_cmp r.0 r.0 ≡ true = is_eq-slice_cmp (string_bytes r.0) (string_bytes r.0) ∙ own_text (string_bytes r.0) in
      let member : is_member (eq_by_cmp string_cmp) keys r.0 ≡ true = any_in (eq_by_cmp string_cmp r.0) r.0 keys r.1 own in
      subst (λ (t : List ℕ). (contains_text first t || contains_text second t) ≡ true) r.2 (sym (is_union r.0) ∙ member)

  to_keys : (text : List ℕ) → (contains_text first text || contains_text second text) ≡ true → In text (map string_bytes keys)
  to_keys text either =
      let r : (key : String Global) × (text ≡ string_bytes key)
      = ⊎_elim (λ any. let k = key_of_text text first.keys any in (k.0, k.2)) (λ any. let k = key_of_text text second.keys any in (k.0, k.2)) (or_cases (contains_text first text) (contains_text second text) either) in
      let member : is_member (eq_by_cmp string_cmp) keys r.0 ≡ true = is_union r.0 ∙ subst (λ (t : List ℕ). (contains_text first t || contains_text second t) ≡ true) r.1 either in
      let k = any_out (eq_by_cmp string_cmp r.0) keys member in
      let same : string_bytes k.0 ≡ text = sym (r.1 ∙ same_text (string_bytes r.0) (string_bytes k.0) (sym (is_eq-slice_cmp (string_bytes r.0) (string_bytes k.0)) ∙ k.2)) in
      subst (λ (t : List ℕ). In t (map string_bytes keys)) same (in_mapped string_bytes k.0 keys k.1)

pub merged_is : (shown : List ℕ → Bool) (first second : BTreeSet (String Global)) (keys : List (String Global)) (texts : List (List ℕ)) → IsStrictlySortedBy string_cmp keys
    → IsUnion (eq_by_cmp string_cmp) first.keys second.keys keys → texts ≡ filter shown (map string_bytes keys) → IsMerged shown first second texts
merged_is shown first second keys texts sorted is_union is = record {
  ascends = subst (λ (t : List (List ℕ)). IsStrictlySortedBy text_cmp t) (sym is) (IsStrictlySortedBy-filter text_cmp shown (map string_bytes keys) (strings_ascend keys sorted));
  members = λ text.
      ap (list_any (bytes_eq text)) is
      ∙ same_answer (list_any (bytes_eq text) (filter shown (map string_bytes keys))) (shown text && (contains_text first text || contains_text second text))
      (λ any.
      let p = in_unfiltered shown text (map string_bytes keys) (text_in text (filter shown (map string_bytes keys)) any) in
      and_from (shown text) (contains_text first text || contains_text second text) p.1 (from_keys first second keys is_union text p.0))
      (λ both.
      let p = and_parts (shown text) (contains_text first text || contains_text second text) both in
      has_text text (filter shown (map string_bytes keys)) (in_filtered shown text (map string_bytes keys) (to_keys first second keys is_union text p.1) p.0));
}

pub one_shown : (shown : List ℕ → Bool) (texts : List (List ℕ)) (text : List ℕ) (rest : List (List ℕ)) → (texts ++ filter shown (text ∷ [])) ++ filter shown rest ≡ texts ++ filter shown (text ∷ rest)
one_shown shown texts text rest = append_assoc texts (filter shown (text ∷ [])) (filter shown rest) ∙ ap (λ (t : List (List ℕ)). texts ++ t) (first (shown text))
  where
    first : (b : Bool) → cond b (text ∷ []) [] ++ filter shown rest ≡ cond b (text ∷ filter shown rest) (filter shown rest)
    first true = refl
    first false = refl

-- ---- a page

module _ (domains : List (List ℕ)) (lines : List HidingLine) (index : Index) (own kept : BTreeSet (String Global)) (indexes : Indexes lines index)
    (hides : HasSelectors false domains (found_for lines index domains) own) (keeps : HasSelectors true domains (found_for lines index domains) kept) where
  all_hidden : (text : List ℕ) → (contains_text index.hidden text || contains_text own text) ≡ list_any (speaks_of false domains text) lines
  all_hidden text =
      ap (λ (t : Bool). t || contains_text own text) (indexes.hidden text)
      ∙ ap (λ (t : Bool). list_any (speaks_of false [] text) (filter is_general lines) || t) (hides text)
      ∙ sym (index_splits false domains text lines index indexes)

  all_kept : (text : List ℕ) → (contains_text index.kept text || contains_text kept text) ≡ is_kept domains lines text
  all_kept text =
      ap (λ (t : Bool). t || contains_text kept text) (indexes.kept text)
      ∙ ap (λ (t : Bool). list_any (speaks_of true [] text) (filter is_general lines) || t) (keeps text)
      ∙ sym (index_splits true domains text lines index indexes)

  neither : (a b : Bool) → (not a && not b) ≡ not (a || b)
  neither true b = refl
  neither false b = refl

  shown_is : (text : List ℕ) → is_shown index kept text ≡ not (is_kept domains lines text)
  shown_is text = neither (contains_text index.kept text) (contains_text kept text) ∙ ap not (all_kept text)

  pub shows_hidden : (texts : List (List ℕ)) → IsMerged (is_shown index kept) index.hidden own texts → texts ≡ hidden_by domains lines
  shows_hidden texts merged =
      let hidden : List HidingLine = filter (hides_by domains lines) lines in
      same_members texts (hidden_by domains lines) merged.ascends (ascending_ascends (map (λ line. line.selector) hidden))
      (λ text i.
      let p = and_parts (is_shown index kept text) (contains_text index.hidden text || contains_text own text) (sym (merged.members text) ∙ has_text text texts i) in
      let r = any_out (speaks_of false domains text) lines (sym (all_hidden text) ∙ p.1) in
      let q = and_parts (is_kind false r.0 && applies_by domains r.0.domains) (bytes_eq r.0.selector text) r.2 in
      let same : r.0.selector ≡ text = same_text r.0.selector text q.1 in
      let free : not (is_kept domains lines r.0.selector) ≡ true = ap (λ (t : List ℕ). not (is_kept domains lines t)) same ∙ sym (shown_is text) ∙ p.0 in
      let here = in_filtered (hides_by domains lines) r.0 lines r.1 (and_from (is_kind false r.0 && applies_by domains r.0.domains) (not (is_kept domains lines r.0.selector)) q.0 free) in
      in_ascending (map (λ line. line.selector) hidden) text (subst (λ (t : List ℕ). In t (map (λ line. line.selector) hidden)) same (in_mapped (λ line. line.selector) r.0 hidden here)))
      (λ text i.
      let m = in_unmapped (λ line. line.selector) text hidden (out_of_ascending (map (λ line. line.selector) hidden) text i) in
      let p = in_unfiltered (hides_by domains lines) m.0 lines m.1 in
      let q = and_parts (is_kind false m.0 && applies_by domains m.0.domains) (not (is_kept domains lines m.0.selector)) p.1 in
      let free : is_shown index kept text ≡ true = shown_is text ∙ ap (λ (t : List ℕ). not (is_kept domains lines t)) (sym m.2) ∙ q.1 in
      let speaks : list_any (speaks_of false domains text) lines ≡ true
      = any_in (speaks_of false domains text) m.0 lines p.0 (and_from (is_kind false m.0 && applies_by domains m.0.domains) (bytes_eq m.0.selector text) q.0 ((bytes_eq-Decides m.0.selector text).1 m.2)) in
      text_in text texts (merged.members text ∙ and_from (is_shown index kept text) (contains_text index.hidden text || contains_text own text) free (all_hidden text ∙ speaks)))
