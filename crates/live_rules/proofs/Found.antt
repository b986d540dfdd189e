-- Rules that are found by their ids.
use Rattle.std.proofs.Common.{◌≡◌, ℕ, zero, suc, ◌≤◌, Bool, false, ◌||◌, List, [], ◌∷◌, ◌++◌, length, Option, Some, None, is_some, unwrap_or, refl, sym, ap, ◌∙◌, subst, arith, ne_eqb, take, drop, take_all, drop_of_length-le, append-nil}
use Rattle.std.specs.Prelude.{nat_eq, slice_get}
use Rattle.std.specs.HashMap.{get, Updates}
use Rattle.rule_spec.specs.Rule.{Rule}
use Rattle.update_spec.specs.Judge.{has_id}
use Rattle.update_spec.specs.Update.{without_ids}
use Rattle.rule_ids.specs.Counted.{counts_of, less, sum_of}
use Rattle.rule_ids.specs.declared.counts.Counts.{Counts}
use Rattle.live_rules.specs.Slots.{listed, there, cleared, gone}
use Rattle.live_rules.specs.Live.{Places, IsLive}
use Rattle.live_rules.proofs.Slots.{length_cleared, counts_cleared, counts_push, one_goes, stood, not_there, there_push}

module _ (slots : List (Option Rule)) (places : Places) (number : Counts) (live : IsLive slots places number) (id place : ℕ) (place_is : place ≡ unwrap_or (get nat_eq places id) 0) where
  only : (at : ℕ) (rule : Rule) → slice_get slots at ≡ Some (Some rule) → rule.id ≡ id → at ≡ place
  only at rule is same = sym (place_is ∙ ap (λ (o : Option ℕ). unwrap_or o 0) (ap (get nat_eq places) (sym same) ∙ live.found at rule is))

  pub removed_is : there (cleared id place slots) ≡ without_ids (id ∷ []) (there slots)
  removed_is = one_goes id place slots only

  pub removed_live : (left : List (Option Rule)) (new : Places) (less_by now : Counts) → left ≡ cleared id place slots → Updates nat_eq places new id None
      → less_by ≡ counts_of (gone id place slots) → now ≡ less number less_by → IsLive left new now
  removed_live left new less_by now left_is updates by_is now_is = record {
    found = λ at rule is.
        let there_is : slice_get (cleared id place slots) at ≡ Some (Some rule) = ap (λ (l : List (Option Rule)). slice_get l at) (sym left_is) ∙ is in
        let was = stood id place slots at rule there_is in
        let other : rule.id ≡ id → ⊥ = λ same. not_there id place slots rule (ap (slice_get (cleared id place slots)) (sym (only at rule was same)) ∙ there_is) same in
        updates.2 rule.id (ne_eqb id rule.id (λ e. other (sym e))) ∙ live.found at rule was;
    counts = now_is ∙ (λ i. less (live.counts i) (by_is i)) ∙ counts_cleared id place slots ∙ ap (λ (l : List (Option Rule)). counts_of (there l)) (sym left_is);
  }

-- the places as a list that was lent out hands them back
pub written_back : (id place count : ℕ) (slots lent new : List (Option Rule)) → lent ≡ slots → length lent ≡ count → new ≡ cleared id place lent
    → take count (new ++ drop (length new) slots) ≡ cleared id place slots
written_back id place count slots lent new same count_is is =
    let long : length new ≡ count = ap length is ∙ length_cleared id place lent ∙ count_is in
    let short : length slots ≤ length new = omega (arith, long, count_is, ap length same) in
    ap (λ (l : List (Option Rule)). take count (new ++ l)) (drop_of_length-le slots short) ∙ ap (take count) (append-nil new) ∙ take_all count new (omega (arith, long))
    ∙ is ∙ ap (cleared id place) same

-- ---- one more

pub not_found : (o : Option ℕ) → is_some o ≡ false → o ≡ None
not_found None is = refl
not_found (Some at) is = absurd (cc is)

-- what stands in a list with one more behind it
stands_in : (slots : List (Option Rule)) (slot : Option Rule) (at : ℕ) (rule : Rule) → slice_get (slots ++ slot ∷ []) at ≡ Some (Some rule)
    → (P : Type 0) → (slice_get slots at ≡ Some (Some rule) → P) → (at ≡ length slots → slot ≡ Some rule → P) → P
stands_in [] slot zero rule is P before last = last refl (cc is)
stands_in [] slot (suc at) rule is P before last = absurd (cc is)
stands_in (x ∷ slots) slot zero rule is P before last = before is
stands_in (x ∷ slots) slot (suc at) rule is P before last = stands_in slots slot at rule is P before (λ e. last (ap suc e))

-- an id that is not found is of none of them
none_has : (slots : List (Option Rule)) (id : ℕ) → ((at : ℕ) (rule : Rule) → slice_get slots at ≡ Some (Some rule) → rule.id ≡ id → ⊥) → has_id (there slots) id ≡ false
none_has [] id others = refl
none_has (None ∷ slots) id others = none_has slots id (λ at. others (suc at))
none_has (Some rule ∷ slots) id others =
    ap (λ (b : Bool). b || has_id (there slots) id) (ne_eqb id rule.id (λ e. others 0 rule refl (sym e))) ∙ none_has slots id (λ at. others (suc at))

pub updates_at : (places new : Places) (id at other end : ℕ) → id ≡ other → at ≡ end → Updates nat_eq places new id (Some at) → Updates nat_eq places new other (Some end)
updates_at places new id at other end id_is at_is updates =
    subst (λ (n : ℕ). Updates nat_eq places new n (Some end)) id_is (subst (λ (n : ℕ). Updates nat_eq places new id (Some n)) at_is updates)

module _ (slots : List (Option Rule)) (places : Places) (number : Counts) (live : IsLive slots places number) (rule : Rule) (new_one : get nat_eq places rule.id ≡ None) where
  others : (at : ℕ) (other : Rule) → slice_get slots at ≡ Some (Some other) → other.id ≡ rule.id → ⊥
  others at other is same = cc (sym (live.found at other is) ∙ ap (get nat_eq places) same ∙ new_one)

  pub none_of_id : has_id (there slots) rule.id ≡ false
  none_of_id = none_has slots rule.id others

  module _ (new : Places) (updates : Updates nat_eq places new rule.id (Some (length slots))) where
    found_before : (at : ℕ) (other : Rule) → slice_get slots at ≡ Some (Some other) → get nat_eq new other.id ≡ Some at
    found_before at other is = updates.2 other.id (ne_eqb rule.id other.id (λ e. others at other is (sym e))) ∙ live.found at other is

    -- where the place is known already, and the rule not there yet
    pub placed_live : IsLive slots new number
    placed_live = record { found = found_before; counts = live.counts }

    pub added_live : (more : List (Option Rule)) (slot : Option Rule) (now : Counts) → more ≡ slots ++ slot ∷ [] → slot ≡ Some rule → now ≡ sum_of number (counts_of (listed slot))
        → IsLive more new now
    added_live more slot now more_is slot_is now_is = record {
      found = λ at other is.
          stands_in slots slot at other (ap (λ (l : List (Option Rule)). slice_get l at) (sym more_is) ∙ is) (get nat_eq new other.id ≡ Some at) (found_before at other)
          (λ at_is slot_other.
          let rule_is : rule ≡ other = cc (sym slot_is ∙ slot_other) in
          ap (λ (r : Rule). get nat_eq new r.id) (sym rule_is) ∙ updates.1 ∙ ap Some (sym at_is));
      counts = now_is ∙ ap (λ (c : Counts). sum_of c (counts_of (listed slot))) live.counts ∙ counts_push (there slots) (listed slot)
          ∙ ap counts_of (sym (there_push slots slot)) ∙ ap (λ (l : List (Option Rule)). counts_of (there l)) (sym more_is);
    }

pub added_is : (slots more : List (Option Rule)) (slot : Option Rule) (rule : Rule) → more ≡ slots ++ slot ∷ [] → slot ≡ Some rule → there more ≡ there slots ++ rule ∷ []
added_is slots more slot rule more_is slot_is = ap there more_is ∙ there_push slots slot ∙ ap (λ (s : Option Rule). there slots ++ listed s) slot_is
