use Rattle.std.proofs.Common.{◌≡◌, ◌≤◌, ◌==◌, ◌∙◌, ℕ, List, drop, length, not, ap, sym, subst, arith}
use Rattle.std.proofs.lemmas.List.Sums.{prefix_len-le-length}
use Rattle.dnr_spec.specs.MatchPatterns.{from}
use Rattle.match_patterns.proofs.parts.parts_at.Goals as goal

pub split_at-requires : goal.split_at-requires
split_at-requires c = let short = prefix_len-le-length (λ b. not (b == 58)) c.args.text.now in omega (arith, short, c.requires.scheme)

pub split_at-requires-2 : goal.split_at-requires-2
split_at-requires-2 c =
    let text = c.args.text.now in
    let behind = drop 3 (from 58 text) in
    let short = prefix_len-le-length (λ b. not (b == 47)) behind in
    let same : c.behind_three.result.now ≡ behind =
    c.behind_three.ensures ∙ ap (λ l. drop 3 l) (c.split_at.ensures.back ∙ ap (λ n. drop n text) c.requires.scheme) in
    subst (λ (l : List ℕ). c.args.cuts.host ≤ length l) (sym same) (omega (arith, short, c.requires.host))
