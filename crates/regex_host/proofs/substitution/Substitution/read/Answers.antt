use Rattle.std.proofs.Common.{rules, ◌≡◌, ◌≤◌, length, is_some, true, arith}
use Rattle.dnr_spec.specs.Substitution.{pieces_of, max_substitution}
use Rattle.regex_host.proofs.Substitutions.{is_read}
use Rattle.regex_host.proofs.substitution.Substitution.read.Goals as goal

pub invariant_of-result : goal.invariant_of-result
invariant_of-result c =
    let short : length c.args.text.now ≤ max_substitution = omega arith in
    let read : is_some (pieces_of c.args.groups c.args.text.now) ≡ true = search rules in
    rw (c.build.ensures, c.in-Ok.ensures.ok) (is_read _ _ short read).0

pub returns-in-Ok-clause-read : goal.returns-in-Ok-clause-read
returns-in-Ok-clause-read c =
    let short : length c.args.text.now ≤ max_substitution = omega arith in
    let read : is_some (pieces_of c.args.groups c.args.text.now) ≡ true = search rules in
    rw (c.build.ensures, c.in-Ok.ensures.ok) (is_read _ _ short read).1

pub returns-in-Err-clause-refused : goal.returns-in-Err-clause-refused
returns-in-Err-clause-refused c =
    let short : length c.args.text.now ≤ max_substitution = omega arith in
    let read : is_some (pieces_of c.args.groups c.args.text.now) ≡ true = search rules in
    (_, (is_read _ _ short read).1)
