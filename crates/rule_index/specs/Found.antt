-- Which rules an index finds, and how often.
use Rattle.std.specs.Prelude.{ℕ, ◌≡◌, ◌≤◌, List, length, Contains, slice_get, sum_by, true, Option, Some, if◌then◌else◌}
use Rattle.dnr_base.specs.View.{IsView}
use Rattle.dnr_base.specs.Request.{Part}
use Rattle.dnr_spec.specs.Suffixes.{SuffixRule}
use Rattle.rule_spec.specs.Rule.{Rule}
use Rattle.rule_spec.specs.Holds.{holds}
use Rattle.index_spec.specs.Pairs.{is_for_frames, pairs_on, rules_for_frames, shared}
use Rattle.index_laws.specs.Shared.{share_a_key}
use Rattle.key_table.specs.Pairs.{shows}
use Rattle.rule_index.specs.Index.{Index, IsIndexOf, near, candidates}
use Rattle.rule_index.specs.Lists.{ListIndex, IsListIndexOf}
use Rattle.rule_index.specs.Needs.{needs_of, shown_by}

-- Each place is given once for each key that its rule shares with the part, and no other is: whatever places weigh,
-- those that are given weigh as much as these keys do.
abbrev pub CandidatesAreCounted : Type 0
CandidatesAreCounted =
    (weight : ℕ → ℕ) (rules : List (ℕ × Rule)) (index : Index) (part : Part)
    → IsIndexOf rules index
    → sum_by weight (candidates index part) ≡ sum_by (λ one. sum_by (λ key. weight one.0) (shared one.1 part)) rules

-- So it is with the places of those rules that need no more than is shown.
abbrev pub NearAreCounted : Type 0
NearAreCounted =
    (weight : ℕ → ℕ) (shown : Option ℕ) (rules : List (ℕ × Rule)) (index : Index) (part : Part)
    → IsIndexOf rules index
    → sum_by weight (near index shown part)
    ≡ sum_by (λ one. sum_by (λ key. if shows (needs_of one.1.condition) shown then weight one.0 else 0) (shared one.1 part)) rules

-- ---- of a list

-- each rule that shares a key and needs no more than is shown is found, and for frames each that reaches through them
abbrev pub SharersAreFound : Type 0
SharersAreFound =
    (shown : Option ℕ) (rules : List Rule) (index : ListIndex) (part : Part) (place : ℕ) (rule : Rule)
    → IsListIndexOf rules index → slice_get rules place ≡ Some rule → share_a_key rule part ≡ true
    → shows (needs_of rule.condition) shown ≡ true
    → Contains (near index.whole shown part) place × (is_for_frames rule.action ≡ true → Contains (near index.framing shown part) place)

-- so is each rule that holds
abbrev pub HoldersAreFound : Type 0
HoldersAreFound =
    (suffixes : List SuffixRule) (rules : List Rule) (index : ListIndex) (part : Part) (place : ℕ) (rule : Rule)
    → IsListIndexOf rules index → slice_get rules place ≡ Some rule → IsView part.view → holds suffixes rule part ≡ true
    → Contains (candidates index.whole part) place × (is_for_frames rule.action ≡ true → Contains (candidates index.framing part) place)

-- and with what the part shows
abbrev pub HoldersAreNear : Type 0
HoldersAreNear =
    (suffixes : List SuffixRule) (rules : List Rule) (index : ListIndex) (part : Part) (place : ℕ) (rule : Rule)
    → IsListIndexOf rules index → slice_get rules place ≡ Some rule → IsView part.view → holds suffixes rule part ≡ true
    → Contains (near index.whole (Some (shown_by part)) part) place
    × (is_for_frames rule.action ≡ true → Contains (near index.framing (Some (shown_by part)) part) place)

-- as many are found as pairs of a rule and a shared key
abbrev pub FewAreFound : Type 0
FewAreFound =
    (rules : List Rule) (index : ListIndex) (part : Part)
    → IsListIndexOf rules index
    → (length (candidates index.whole part) ≡ pairs_on rules part)
    × (length (candidates index.framing part) ≡ pairs_on (rules_for_frames rules) part)

-- and no more with what is shown
abbrev pub FewAreNear : Type 0
FewAreNear =
    (shown : Option ℕ) (rules : List Rule) (index : ListIndex) (part : Part)
    → IsListIndexOf rules index
    → (length (near index.whole shown part) ≤ pairs_on rules part)
    × (length (near index.framing shown part) ≤ pairs_on (rules_for_frames rules) part)
