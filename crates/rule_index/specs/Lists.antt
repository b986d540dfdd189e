-- The index of a list of rules: of all of them, and once more of those that reach a request through its frames.
use Rattle.std.specs.Prelude.{ℕ, ◌+◌, List, [], ◌∷◌, filter, if◌then◌else◌}
use Rattle.rule_spec.specs.Rule.{Rule}
use Rattle.index_spec.specs.Pairs.{is_for_frames}
use Rattle.rule_index.specs.Index.{Index, empty_index, with_rule, IsReordered, IsIndexOf}

-- the rules with their places, of which this is the first
abbrev pub placed_from : ℕ → List Rule → List (ℕ × Rule)
placed_from place [] = []
placed_from place (rule ∷ rules) = (place, rule) ∷ placed_from (place + 1) rules

abbrev pub placed : List Rule → List (ℕ × Rule)
placed rules = placed_from 0 rules

-- those of them that reach a request through its frames
abbrev pub for_frames : List (ℕ × Rule) → List (ℕ × Rule)
for_frames rules = filter (λ one. is_for_frames one.1.action) rules

pub record ListIndex : Type 0 where
  pub whole : Index
  pub framing : Index

pub record IsListIndexOf (rules : List Rule) (index : ListIndex) : Type 0 where
  pub whole : IsIndexOf (placed rules) index.whole
  pub framing : IsIndexOf (for_frames (placed rules)) index.framing

-- ---- rules that become an index

pub record ListDraft : Type 0 where
  pub whole : Index
  pub framing : Index
  pub count : ℕ

abbrev pub empty_draft : ListDraft
empty_draft = record { whole = empty_index; framing = empty_index; count = 0 }

-- one rule more, at the next place
abbrev pub with_next : ListDraft → Rule → ListDraft
with_next draft rule = record {
  whole = with_rule draft.whole rule draft.count;
  framing = if is_for_frames rule.action then with_rule draft.framing rule draft.count else draft.framing;
  count = draft.count + 1;
}

pub record AreReordered (draft : ListDraft) (index : ListIndex) : Type 0 where
  pub whole : IsReordered draft.whole index.whole
  pub framing : IsReordered draft.framing index.framing
