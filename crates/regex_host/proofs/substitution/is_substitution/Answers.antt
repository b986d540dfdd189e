use Rattle.std.proofs.Common.{rules, ◌≡◌, ◌≢◌, ◌∷◌, true, is_some, arith, sym, ◌∙◌}
use Rattle.dnr_spec.specs.Substitution.{escaped}
use Rattle.regex_host.proofs.Substitutions.{plain_is_some, escape_is_some}
use Rattle.regex_host.proofs.substitution.is_substitution.Goals as goal

pub loop-byte-preserved-then-byte-ne92 : goal.loop-byte-preserved-then-byte-ne92
loop-byte-preserved-then-byte-ne92 c =
    let front : c.loop-byte.rest.now ≡ c.in-Some.byte ∷ c.in-Some.behind.now = search rules in
    let other : c.in-Some.byte ≢ 92 = omega arith in
    c.loop-byte.invariant ∙ rw front (plain_is_some _ _ _ other)

pub loop-byte-preserved : goal.loop-byte-preserved
loop-byte-preserved c =
    let front : c.loop-byte.rest.now ≡ c.in-Some.byte ∷ c.in-Some.behind.now = search rules in
    let back : c.in-Some.behind.now ≡ c.in-Some-split_first.escaped ∷ c.in-Some-split_first.later.now = search rules in
    let slash : c.in-Some.byte ≡ 92 = omega arith in
    let may : is_some (escaped c.args.groups c.in-Some-split_first.escaped) ≡ true = rw c.in-Some-split_first.escaped-is at (sym c.is_escape.ensures ∙ c.if-is_escape.true) in
    c.loop-byte.invariant ∙ rw (front, back, slash) (escape_is_some c.args.groups c.in-Some-split_first.escaped c.in-Some-split_first.later.now may)
