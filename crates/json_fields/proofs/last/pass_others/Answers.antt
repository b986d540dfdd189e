use Rattle.std.proofs.Common.{◌≡◌, ◌-◌, Some, None, sym, ap, ◌∙◌, arith}
use Rattle.json.specs.Json.{read_key}
use Rattle.json.proofs.Grammar.{left_some, left_none, read_key-shorter}
use Rattle.json_fields.specs.Last.{value_at, times}
use Rattle.json_fields.proofs.Times.{one_more, is_other, goes_begins, goes_more, goes_over, goes_no_key, goes_no_value, on_err}
use Rattle.json_fields.proofs.last.pass_others.Goals as goal

pub members-init : goal.members-init
members-init c = record {
  n = c.requires.n;
  all = c.requires.all;
  rest = c.requires.rest;
  enough = c.requires.enough;
  are = c.requires.are;
  count = c.requires.count;
  goes = goes_begins c.args.depth c.args.name.now c.args.reader.now;
  shorter = omega arith;
}

pub returns-in_err-next_key-clause-bad : goal.returns-in_err-next_key-clause-bad
returns-in_err-next_key-clause-bad c =
    let l = c.members in
    on_err _ (goes_no_key c.args.depth c.args.name.now c.args.reader.now l.reader l.invariant.goes c.in_err-next_key.ensures.value)

pub members-preserved : goal.members-preserved
members-preserved c =
    let l = c.members in
    let n = l.invariant.n in
    let k = c.in-Some.field-0.now in
    let s = c.next_key.new.self in
    let r = c.pass_value.new.reader in
    let named : read_key l.reader ≡ Some (Some k, s) = grind arith in
    let less = read_key-shorter l.reader (Some k) s named in
    let lesser = c.in_ok-pass_value.ensures.shorter in
    let enough = l.invariant.enough in
    let d = left_some (value_at c.args.depth s) r c.in_ok-pass_value.ensures.value in
    let more = one_more c.args.depth n k l.reader s r l.invariant.rest d.0 l.invariant.all (omega arith) named d.1 l.invariant.are in
    let none = sym (ap (times c.args.name.now) more.is) ∙ l.invariant.count in
    record {
      n = n - 1;
      all = more.others;
      rest = l.invariant.rest;
      enough = omega arith;
      are = more.are;
      count = omega (arith, none);
      goes = goes_more c.args.depth c.args.name.now k c.args.reader.now l.reader s r d.0 l.invariant.goes named d.1 (omega arith) (is_other k c.args.name.now (omega (arith, none)));
      shorter = omega (arith, l.invariant.shorter);
    }

pub returns-in_err-pass_value-clause-bad : goal.returns-in_err-pass_value-clause-bad
returns-in_err-pass_value-clause-bad c =
    let l = c.members in
    let k = c.in-Some.field-0.now in
    let s = c.next_key.new.self in
    let named : read_key l.reader ≡ Some (Some k, s) = grind arith in
    on_err _ (goes_no_value c.args.depth c.args.name.now k c.args.reader.now l.reader s l.invariant.goes named (left_none (value_at c.args.depth s) c.in_err-pass_value.ensures.value))

pub returns-clause-ok : goal.returns-clause-ok
returns-clause-ok c =
    let l = c.members in
    let closed : read_key l.reader ≡ Some (None, c.next_key.new.self) = grind arith in
    goes_over c.args.depth c.args.name.now c.args.reader.now l.reader c.next_key.new.self l.invariant.goes closed
