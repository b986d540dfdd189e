use Rattle.std.proofs.Common.{◌≡◌, ◌<◌, length, None, arith}
use Rattle.json.proofs.Grammar.{after_end_array-shorter}
use Rattle.json.specs.Json.{after_end_array}
use Rattle.serde_json.specs.Data.{no_items}
use Rattle.rules_file.proofs.Steps.{none_passed, one_passed, all_passed, not_passed}
use Rattle.rules_file.proofs.list.pass_rest.Goals as goal

pub items-init : goal.items-init
items-init c = record { passed = none_passed c.args.depth c.args.reader.now; shorter = omega arith }

pub items-preserved : goal.items-preserved
items-preserved c =
    let l = c.items in
    let going : (after_end_array l.reader ≡ None) × (c.take_end_array.new.self ≡ l.reader) = c.items-test.ensures in
    let one = rw going.1 at c.in-Ok.ensures.passed in
    let less : length c.pass_element.new.reader < length l.reader = rw going.1 at c.in-Ok.ensures.shorter in
    record {
      passed = one_passed c.args.depth c.args.reader.now l.reader c.pass_element.new.reader one.0 l.invariant.passed going.0 one.1 less;
      shorter = omega (arith, l.invariant.shorter, less);
    }

pub returns-clause-passed : goal.returns-clause-passed
returns-clause-passed c = let l = c.items in (l.invariant.passed.front no_items, all_passed c.args.depth c.args.reader.now l.reader c.take_end_array.new.self l.invariant.passed c.items-test.ensures)

pub returns-in-Err-clause-bad : goal.returns-in-Err-clause-bad
returns-in-Err-clause-bad c =
    let l = c.items in
    let going : (after_end_array l.reader ≡ None) × (c.take_end_array.new.self ≡ l.reader) = c.items-test.ensures in
    not_passed c.args.depth c.args.reader.now l.reader l.invariant.passed going.0 (rw going.1 at c.in-Err.ensures.bad)

pub returns-clause-shorter : goal.returns-clause-shorter
returns-clause-shorter c =
    let l = c.items in
    let less = after_end_array-shorter l.reader c.take_end_array.new.self c.items-test.ensures in
    omega (arith, l.invariant.shorter, less)
