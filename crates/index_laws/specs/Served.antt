-- Walking some places of a list in place of all of it.
use Rattle.std.specs.Prelude.{ℕ, ◌≡◌, List, filter, Bool, true, Some, slice_get}
use Rattle.std.specs.List.{Contains, filter_map}
use Rattle.std.specs.List.Sorted.{IsStrictlyIncreasing}
use Rattle.dnr_base.specs.declared.request.Request.{Request}
use Rattle.dnr_spec.specs.Suffixes.{SuffixRule}
use Rattle.rule_spec.specs.Scan.{is_candidate}
use Rattle.rule_spec.specs.State.{Live}

-- the elements at these places
abbrev pub at_places : {X : Type 0} → List X → List ℕ → List X
at_places xs places = filter_map (slice_get xs) places

-- the places rise, and each element that passes the test stands at one of them
pub record Serve {X : Type 0} (test : X → Bool) (xs : List X) (places : List ℕ) : Type 0 where
  pub rising : IsStrictlyIncreasing places
  pub all : (place : ℕ) (x : X) → slice_get xs place ≡ Some x → test x ≡ true → Contains places place

-- whether the rule may decide about the request, or change its headers
abbrev pub decides_on : List SuffixRule → List ℕ → Bool → Request → Live → Bool
decides_on suffixes extension access request live = is_candidate suffixes extension access request live.rule

-- places of all rules that are candidates give the same candidates as all rules do, in the same order
abbrev pub CandidatesAreServed : Type 0
CandidatesAreServed =
    (suffixes : List SuffixRule) (extension : List ℕ) (access : Bool) (request : Request) (lives : List Live) (places : List ℕ)
    → Serve (decides_on suffixes extension access request) lives places
    → filter (decides_on suffixes extension access request) (at_places lives places) ≡ filter (decides_on suffixes extension access request) lives
