-- Rules that are put into a draft one after another stand in it with their places.
use Rattle.std.proofs.Common.{◌≡◌, ℕ, ◌+◌, List, [], ◌∷◌, length, arith, fold, map, Bool, true, false, cond, refl, ap, ◌∙◌, subst}
use Rattle.rule_spec.specs.Rule.{Rule}
use Rattle.index_spec.specs.Pairs.{is_for_frames}
use Rattle.rule_index.specs.Index.{Index, with_rule, with_placed, IsReordered}
use Rattle.rule_index.specs.Lists.{placed_from, for_frames, ListIndex, ListDraft, IsListIndexOf, empty_draft, with_next, AreReordered}

whole_is : (rules : List Rule) (draft : ListDraft) → (fold with_next draft rules).whole ≡ fold with_placed draft.whole (placed_from draft.count rules)
whole_is [] draft = refl
whole_is (rule ∷ rules) draft = whole_is rules (with_next draft rule)

framing_is : (rules : List Rule) (draft : ListDraft) → (fold with_next draft rules).framing ≡ fold with_placed draft.framing (for_frames (placed_from draft.count rules))
framing_is [] draft = refl
framing_is (rule ∷ rules) draft = framing_is rules (with_next draft rule) ∙ by (is_for_frames rule.action)
  where
    rest : List (ℕ × Rule)
    rest = for_frames (placed_from (draft.count + 1) rules)

    by : (is : Bool) → fold with_placed (cond is (with_rule draft.framing rule draft.count) draft.framing) rest ≡ fold with_placed draft.framing (cond is ((draft.count, rule) ∷ rest) rest)
    by true = refl
    by false = refl

-- the index of what was drafted
pub listed : (rules : List Rule) (draft : ListDraft) (index : ListIndex) → draft ≡ fold with_next empty_draft rules → AreReordered draft index → IsListIndexOf rules index
listed rules draft index is kept = record {
  whole = subst (λ (own : Index). IsReordered own index.whole) (ap (λ (d : ListDraft). d.whole) is ∙ whole_is rules empty_draft) kept.whole;
  framing = subst (λ (own : Index). IsReordered own index.framing) (ap (λ (d : ListDraft). d.framing) is ∙ framing_is rules empty_draft) kept.framing;
}

-- nothing is left to be put into it
pub none_left : {X : Type 0} (lent : X → Rule) (draft : ListDraft) (left : List X) → length left ≡ 0 → fold with_next draft (map lent left) ≡ draft
none_left lent draft [] none = refl
none_left lent draft (x ∷ left) none = absurd (omega arith)
