-- The parts of a pattern, as those of the definition, and where a text is cut into them.
use Rattle.std.specs.Prelude.{◌≡◌, ℕ, ◌==◌, List, drop}
use Rattle.std.specs.List.{position_or_len}
use Rattle.dnr_spec.specs.MatchPatterns.{MatchParts, from}
use Rattle.match_patterns.specs.declared.parts.Cuts.{Cuts}
use Rattle.match_patterns.specs.declared.parts.Parts.{Parts}

abbrev pub parts_seen : Parts → MatchParts
parts_seen parts = record { scheme = parts.scheme.now; host = parts.host.now; path = parts.path.now }

-- the scheme ends at the first `:`, and the host at the first `/` behind what should be two slashes
pub record AreCuts (text : List ℕ) (cuts : Cuts) : Type 0 where
  pub scheme : cuts.scheme ≡ position_or_len (λ b. b == 58) text
  pub host : cuts.host ≡ position_or_len (λ b. b == 47) (drop 3 (from 58 text))
