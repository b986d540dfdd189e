use Rattle.std.proofs.Common.{◌≡◌, ◌-◌, length, Some, None, refl, ap, ◌∙◌, arith}
use Rattle.json.specs.Json as json
use Rattle.json.specs.Json.{parse_map, read_key, members, value}
use Rattle.json.proofs.Grammar.{left_some, left_none, members_more, members_end, read_key-shorter}
use Rattle.serde_json.specs.Data.{no_members, put}
use Rattle.serde_json.specs.Read.{of_json}
use Rattle.json_fields.specs.Last.{value_at, one_if}
use Rattle.json_fields.proofs.Turns.{converted_some, member_read, member_refused, key_refused}
use Rattle.json_fields.proofs.Times.{maps_none, maps_twice}
use Rattle.json_fields.proofs.last.count_members.Goals as goal

pub members-init : goal.members-init
members-init c = record {
  left = length c.args.reader.now;
  front = λ js. js;
  found = no_members;
  enough = omega arith;
  same = maps_none _;
  conv = refl;
  counted = λ js. omega arith;
}

pub returns-in_err-key-clause-bad : goal.returns-in_err-key-clause-bad
returns-in_err-key-clause-bad c = λ _.
    let l = c.members in
    l.invariant.conv ∙ key_refused (value c.args.depth) l.invariant.found l.invariant.left l.reader c.in_err-key.ensures.value

pub returns-in_err-pass_value-clause-bad : goal.returns-in_err-pass_value-clause-bad
returns-in_err-pass_value-clause-bad c = λ _.
    let l = c.members in
    let k = c.in-Some.key.now in
    let s = c.next_key.new.self in
    let named : read_key l.reader ≡ Some (Some k, s) = grind arith in
    l.invariant.conv ∙ member_refused (value c.args.depth) l.invariant.found l.invariant.left k l.reader s named (left_none (value_at c.args.depth s) c.in_err-pass_value.ensures.value)

pub members-preserved : goal.members-preserved
members-preserved c =
    let p = value c.args.depth in
    let l = c.members in
    let n = l.invariant.left in
    let k = c.in-Some.key.now in
    let s = c.next_key.new.self in
    let r = c.pass_value.new.reader in
    let named : read_key l.reader ≡ Some (Some k, s) = grind arith in
    let less = read_key-shorter l.reader (Some k) s named in
    let lesser = c.in_ok-pass_value.ensures.shorter in
    let enough = l.invariant.enough in
    let d = left_some (value_at c.args.depth s) r c.in_ok-pass_value.ensures.value in
    let j = converted_some of_json (p s) d.0 r d.1 in
    record {
      left = n - 1;
      front = λ js. l.invariant.front (json.member k j.0 js);
      found = put k d.0 l.invariant.found;
      enough = omega arith;
      same = l.invariant.same ∙ ap (parse_map l.invariant.front) (members_more p n k l.reader s r j.0 (omega arith) named j.1) ∙ maps_twice l.invariant.front (json.member k j.0) (members p (n - 1) r);
      conv = l.invariant.conv ∙ member_read p l.invariant.found n k l.reader s r d.0 (omega arith) named d.1;
      counted = λ js. omega (arith, l.invariant.counted (json.member k j.0 js), c.in_ok-count.ensures.more, ap one_if c.is_same.ensures);
    }

pub returns-clause-ok : goal.returns-clause-ok
returns-clause-ok c =
    let l = c.members in
    let closed : read_key l.reader ≡ Some (None, c.next_key.new.self) = grind arith in
    record {
      all = l.invariant.front json.no_members;
      rest = c.next_key.new.self;
      are = l.invariant.same ∙ ap (parse_map l.invariant.front) (members_end (value c.args.depth) l.invariant.left l.reader c.next_key.new.self l.invariant.enough closed);
      count = omega (arith, l.invariant.counted json.no_members);
    }
