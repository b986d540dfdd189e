use Rattle.std.proofs.Common.{◌≡◌, IsSome, string_bytes, length, ◌++◌}
use denote.Text.{Utf8}
use denote.Shadow.{shadow}
use Rattle.dnr_spec.specs.Substitution.{pieces_of, expansion}
use Rattle.regex_host.specs.Substitution.{pieces_in}
use Rattle.regex_host.proofs.substitution.Substitution.expand.Given as goal

abbrev pub invariant-loop-literal : goal.invariant-loop-literal
invariant-loop-literal l =
    shadow (Utf8 l.rest)
    × IsSome (pieces_of 9 l.rest)
    × (string_bytes l.expanded ++ expansion (pieces_in l.rest) l.text l.spans ≡ expansion l.self l.text l.spans)

abbrev pub decreases-loop-literal : goal.decreases-loop-literal
decreases-loop-literal l = length l.rest
