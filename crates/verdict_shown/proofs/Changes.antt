-- Header changes that are shown one behind another.
use Rattle.std.proofs.Common.{◌≡◌, ℕ, ◌+◌, ◌<◌, ◌≤◌, List, [], ◌∷◌, ◌++◌, map, length, take, get_or, rules, arith, refl, sym, ap, ◌∙◌}
use Rattle.std.proofs.lemmas.List.{map-append, take_more, take_all}
use Rattle.rule_spec.specs.Scan.{NamedOp}
use Rattle.verdict_shown.specs.Shown.{text_at, if_given, change_at, change_of}
use Rattle.verdict_shown.specs.Written.{Grows, text_ends, IsRuleWithin, IsChangeWithin, AreWithin}
use Rattle.verdict_shown.specs.declared.shown.ShownChange.{ShownChange}
use Rattle.verdict_shown.proofs.Places.{grows_longer, text_stays, given_stays, rule_stays}

change_stays : (before after : List ℕ) (change : ShownChange) → Grows before after → IsChangeWithin (length before) change → change_at after change ≡ change_at before change
change_stays before after change h within =
    let n = text_stays before after change.name h within.0 in
    let v = given_stays before after change.has_value change.value h within.1 in
    let r = rule_stays before after change.rule h within.2 in
    rw (n, v, r) refl

pub changes_stay : (before after : List ℕ) (changes : List ShownChange) → Grows before after → AreWithin (length before) changes → map (change_at after) changes ≡ map (change_at before) changes
unfolding AreWithin
changes_stay before after [] h within = refl
changes_stay before after (change ∷ changes) h within =
    let first = change_stays before after change h within.0 in
    let rest = changes_stay before after changes h within.1 in
    rw (first, rest) refl

later : (least most : ℕ) (change : ShownChange) → least ≤ most → IsChangeWithin least change → IsChangeWithin most change
later least most change le within =
    let a = within.0 in let b = within.1 in let c = within.2.0 in let d = within.2.1 in
    (omega (arith, le, a), omega (arith, le, b), (omega (arith, le, c), omega (arith, le, d)))

pub are_within_on : (least most : ℕ) (changes : List ShownChange) → least ≤ most → AreWithin least changes → AreWithin most changes
unfolding AreWithin
are_within_on least most [] le within = tt
are_within_on least most (change ∷ changes) le within = (later least most change le within.0, are_within_on least most changes le within.1)

within_on : (least most : ℕ) (changes : List ShownChange) (change : ShownChange) → least ≤ most → AreWithin least changes → IsChangeWithin most change → AreWithin most (changes ++ change ∷ [])
unfolding AreWithin
within_on least most [] change le within last = (last, tt)
within_on least most (first ∷ changes) change le within last = (later least most first le within.0, within_on least most changes change le within.1 last)

-- so many of the changes are shown
pub record AreShown (ops : List NamedOp) (bytes : List ℕ) (shown : List ShownChange) (next : ℕ) : Type 0 where
  pub same : map (change_at bytes) shown ≡ map change_of (take next ops)
  pub within : AreWithin (length bytes) shown

pub shown_begin : (ops : List NamedOp) (bytes : List ℕ) → AreShown ops bytes [] 0
unfolding AreWithin
shown_begin ops bytes = record { same = refl; within = tt }

pub shown_go_on : (ops : List NamedOp) (before after : List ℕ) (shown : List ShownChange) (next : ℕ) (op : NamedOp) (change : ShownChange)
    → next < length ops → op ≡ get_or ops next op → AreShown ops before shown next → Grows before after
    → change_at after change ≡ change_of op → IsChangeWithin (length after) change → AreShown ops after (shown ++ change ∷ []) (next + 1)
shown_go_on ops before after shown next op change inside is so_far grows same within = record {
  same = map-append (change_at after) shown (change ∷ [])
      ∙ ap (λ s. s ++ change_at after change ∷ []) (changes_stay before after shown grows so_far.within ∙ so_far.same)
      ∙ ap (λ c. map change_of (take next ops) ++ c ∷ []) same
      ∙ sym (map-append change_of (take next ops) (op ∷ []))
      ∙ ap (map change_of) (ap (λ o. take next ops ++ o ∷ []) is ∙ sym (take_more ops next op inside));
  within = within_on (length before) (length after) shown change (grows_longer before after grows) so_far.within within;
}

pub shown_end : (ops : List NamedOp) (bytes : List ℕ) (shown : List ShownChange) (next : ℕ) → length ops ≤ next → AreShown ops bytes shown next → map (change_at bytes) shown ≡ map change_of ops
shown_end ops bytes shown next end so_far = so_far.same ∙ ap (map change_of) (take_all next ops end)

pub shown_within : (ops : List NamedOp) (bytes : List ℕ) (shown : List ShownChange) (next : ℕ) → AreShown ops bytes shown next → AreWithin (length bytes) shown
shown_within ops bytes shown next so_far = so_far.within
