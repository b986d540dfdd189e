use Rattle.std.proofs.Common.{◌≡◌, ◌-◌, length, Some, None, refl, ◌∙◌, arith}
use Rattle.json.specs.Json.{read_key, value}
use Rattle.json.proofs.Grammar.{read_key-shorter}
use Rattle.serde_json.specs.Data.{no_members, put}
use Rattle.json_fields.proofs.Turns.{member_read, member_refused, key_refused, members_over}
use Rattle.json_fields.proofs.Filled.{holds_nothing}
use Rattle.json_fields.proofs.fields.fill_fields.Goals as goal

pub members-init : goal.members-init
members-init c = record { left = length c.args.reader.now; found = no_members; enough = omega arith; same = refl; holds = holds_nothing c.args.fields.now c.requires.empty; shorter = omega arith; keys = refl }

pub returns-in_err-name-clause-bad : goal.returns-in_err-name-clause-bad
returns-in_err-name-clause-bad c = λ _.
    let l = c.members in
    l.invariant.same ∙ key_refused (value c.args.depth) l.invariant.found l.invariant.left l.reader c.in_err-name.ensures.value

pub members-preserved : goal.members-preserved
members-preserved c =
    let p = value c.args.depth in
    let l = c.members in
    let n = l.invariant.left in
    let k = c.in-Some.name.now in
    let s = c.next_key.new.self in
    let named : read_key l.reader ≡ Some (Some k, s) = grind arith in
    let done = c.in_ok-next_field.ensures in
    let one = done.ok in
    let r = c.next_field.new.reader in
    let less = read_key-shorter l.reader (Some k) s named in
    let lesser = done.shorter in
    let enough = l.invariant.enough in
    record {
      left = n - 1;
      found = put k one.0 l.invariant.found;
      enough = omega arith;
      same = l.invariant.same ∙ member_read p l.invariant.found n k l.reader s r one.0 (omega arith) named one.1;
      holds = one.2 l.invariant.found l.invariant.holds;
      shorter = omega (arith, l.invariant.shorter);
      keys = done.keys ∙ l.invariant.keys;
    }

pub returns-in_err-next_field-clause-bad : goal.returns-in_err-next_field-clause-bad
returns-in_err-next_field-clause-bad c = λ e.
    let l = c.members in
    let k = c.in-Some.name.now in
    let s = c.next_key.new.self in
    let named : read_key l.reader ≡ Some (Some k, s) = grind arith in
    l.invariant.same ∙ member_refused (value c.args.depth) l.invariant.found l.invariant.left k l.reader s named (c.in_err-next_field.ensures.bad (grind (arith, e)))

pub returns-clause-ok : goal.returns-clause-ok
returns-clause-ok c =
    let l = c.members in
    let closed : read_key l.reader ≡ Some (None, c.next_key.new.self) = grind arith in
    (l.invariant.found, l.invariant.same ∙ members_over (value c.args.depth) l.invariant.found l.invariant.left l.reader c.next_key.new.self l.invariant.enough closed, l.invariant.holds)
