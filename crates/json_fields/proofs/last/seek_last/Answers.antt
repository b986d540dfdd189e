use Rattle.std.proofs.Common.{◌≡◌, ◌-◌, length, Some, None, refl, sym, ap, ◌∙◌, arith, bytes_eq}
use Rattle.json.specs.Json.{read_key, value}
use Rattle.json.proofs.Grammar.{left_some, left_none, read_key-shorter}
use Rattle.serde_json.specs.Data.{no_members, put}
use Rattle.json_fields.specs.Last.{value_at, times, one_if}
use Rattle.json_fields.proofs.Turns.{member_read, member_refused, key_refused}
use Rattle.json_fields.proofs.Times.{one_more, no_more, last_here, is_named, at_most_one, on_err}
use Rattle.json_fields.proofs.last.seek_last.Goals as goal

pub members-init : goal.members-init
members-init c = record {
  n = length c.args.reader.now;
  found = no_members;
  all = c.requires.times.all;
  rest = c.requires.times.rest;
  some = c.requires.some;
  enough = omega arith;
  are = c.requires.times.are;
  conv = refl;
  count = c.requires.times.count;
  shorter = omega arith;
}

pub returns-in_err-key-clause-bad : goal.returns-in_err-key-clause-bad
returns-in_err-key-clause-bad c =
    let l = c.members in
    on_err _ (l.invariant.conv ∙ key_refused (value c.args.depth) l.invariant.found l.invariant.n l.reader c.in_err-key.ensures.value)

pub returns-then-left-eq0-clause-ok : goal.returns-then-left-eq0-clause-ok
returns-then-left-eq0-clause-ok c =
    let l = c.members in
    let k = c.in-Some.key.now in
    let s = c.next_key.new.self in
    let named : read_key l.reader ≡ Some (Some k, s) = grind arith in
    let less = read_key-shorter l.reader (Some k) s named in
    let bound = at_most_one (bytes_eq k c.args.name.now) in
    let same = ap one_if c.is_same.ensures in
    let one : one_if (bytes_eq k c.args.name.now) ≡ 1 = omega (arith, c.less_if-left.ensures, same, bound, l.invariant.some) in
    let only : l.left ≡ 1 = omega (arith, c.less_if-left.ensures, same, bound, l.invariant.some) in
    last_here c.args.depth l.invariant.n c.args.name.now k c.args.reader.now l.reader s l.invariant.rest l.invariant.found l.invariant.all l.invariant.enough (omega (arith, l.invariant.enough)) named l.invariant.are
    l.invariant.conv (l.invariant.count ∙ only) (is_named k c.args.name.now (omega (arith, one))) one

pub members-preserved : goal.members-preserved
members-preserved c =
    let p = value c.args.depth in
    let l = c.members in
    let n = l.invariant.n in
    let k = c.in-Some.key.now in
    let s = c.next_key.new.self in
    let r = c.pass_value.new.reader in
    let named : read_key l.reader ≡ Some (Some k, s) = grind arith in
    let less = read_key-shorter l.reader (Some k) s named in
    let lesser = c.in_ok-pass_value.ensures.shorter in
    let enough = l.invariant.enough in
    let d = left_some (value_at c.args.depth s) r c.in_ok-pass_value.ensures.value in
    let more = one_more c.args.depth n k l.reader s r l.invariant.rest d.0 l.invariant.all (omega arith) named d.1 l.invariant.are in
    let same = ap one_if c.is_same.ensures in
    record {
      n = n - 1;
      found = put k d.0 l.invariant.found;
      all = more.others;
      rest = l.invariant.rest;
      some = omega arith;
      enough = omega arith;
      are = more.are;
      conv = l.invariant.conv ∙ member_read p l.invariant.found n k l.reader s r d.0 (omega arith) named d.1;
      count = omega (arith, sym (ap (times c.args.name.now) more.is) ∙ l.invariant.count, c.less_if-left.ensures, same);
      shorter = omega (arith, l.invariant.shorter);
    }

pub returns-in_err-pass_value-clause-bad : goal.returns-in_err-pass_value-clause-bad
returns-in_err-pass_value-clause-bad c =
    let l = c.members in
    let k = c.in-Some.key.now in
    let s = c.next_key.new.self in
    let named : read_key l.reader ≡ Some (Some k, s) = grind arith in
    on_err _ (l.invariant.conv ∙ member_refused (value c.args.depth) l.invariant.found l.invariant.n k l.reader s named (left_none (value_at c.args.depth s) c.in_err-pass_value.ensures.value))

pub returns-clause-bad : goal.returns-clause-bad
returns-clause-bad c =
    let l = c.members in
    let closed : read_key l.reader ≡ Some (None, c.next_key.new.self) = grind arith in
    let none = no_more c.args.depth l.invariant.n c.args.name.now l.reader c.next_key.new.self l.invariant.rest l.invariant.all l.invariant.enough closed l.invariant.are in
    let never : ⊥ = omega (arith, l.invariant.some, l.invariant.count, none) in
    absurd never
