use Rattle.std.proofs.Common.{◌≡◌, ◌-◌, length, Some, None, refl, ◌∙◌, arith}
use Rattle.json.specs.Json.{read_key, value}
use Rattle.json.proofs.Grammar.{read_key-shorter}
use Rattle.serde_json.specs.Data.{no_members, put}
use Rattle.json_fields.proofs.Turns.{member_read, member_refused, key_refused, members_over}
use Rattle.update_parts.proofs.batch.updates_of.Goals as goal

pub members-init : goal.members-init
members-init c = record { left = length c.args.reader.now; found = no_members; enough = omega arith; same = refl; holds = refl; shorter = omega arith }

pub returns-in_err-name-clause-bad : goal.returns-in_err-name-clause-bad
returns-in_err-name-clause-bad c = λ _.
    let l = c.members in
    l.invariant.same ∙ key_refused (value c.args.depth) l.invariant.found l.invariant.left l.reader c.in_err-name.ensures.value

pub returns-in_err-kept-clause-bad : goal.returns-in_err-kept-clause-bad
returns-in_err-kept-clause-bad c = λ e.
    let l = c.members in
    let k = c.in-Some.name.now in
    let s = c.next_key.new.self in
    let named : read_key l.reader ≡ Some (Some k, s) = grind arith in
    l.invariant.same ∙ member_refused (value c.args.depth) l.invariant.found l.invariant.left k l.reader s named (c.in_err-kept.ensures.bad (grind (arith, e)))

pub members-preserved : goal.members-preserved
members-preserved c =
    let p = value c.args.depth in
    let l = c.members in
    let n = l.invariant.left in
    let k = c.in-Some.name.now in
    let s = c.next_key.new.self in
    let named : read_key l.reader ≡ Some (Some k, s) = grind arith in
    let one = c.in_ok-kept.ensures.read in
    let r = c.with_member.new.reader in
    let less = read_key-shorter l.reader (Some k) s named in
    let lesser = c.in_ok-kept.ensures.shorter in
    let enough = l.invariant.enough in
    record {
      left = n - 1;
      found = put k one.0 l.invariant.found;
      enough = omega arith;
      same = l.invariant.same ∙ member_read p l.invariant.found n k l.reader s r one.0 (omega arith) named one.1;
      holds = one.2 l.invariant.found l.invariant.holds;
      shorter = omega (arith, l.invariant.shorter);
    }

pub returns-clause-read : goal.returns-clause-read
returns-clause-read c =
    let l = c.members in
    let closed : read_key l.reader ≡ Some (None, c.next_key.new.self) = grind arith in
    (l.invariant.found, l.invariant.same ∙ members_over (value c.args.depth) l.invariant.found l.invariant.left l.reader c.next_key.new.self l.invariant.enough closed, l.invariant.holds)
