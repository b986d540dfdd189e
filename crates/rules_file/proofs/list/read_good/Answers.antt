use Rattle.std.proofs.Common.{◌≡◌, ◌<◌, length, Ok, None, refl, sym, ap, ◌∙◌, subst, arith}
use Rattle.json.specs.Json.{after_end_array}
use Rattle.json.proofs.Grammar.{after_end_array-shorter}
use Rattle.dnr_base.specs.Faults.{Rose}
use Rattle.rules_file.proofs.Steps.{IsReadSoFar, read_begins, read_goes_on, read_ends, read_refuses, not_passed, rose_since}
use Rattle.rules_file.proofs.list.read_good.Goals as goal

pub items-init : goal.items-init
items-init g c = record {
  so_far = subst (λ rules. IsReadSoFar c.args.depth c.args.kind c.args.reader.now c.args.reader.now rules) (sym c.requires.none) (read_begins c.args.depth c.args.kind c.args.reader.now);
  shorter = omega arith;
  taken = c.requires.taken;
  calm = refl;
}

pub next_rule-requires : goal.next_rule-requires
next_rule-requires g c = c.items.invariant.taken

pub items-preserved : goal.items-preserved
items-preserved g c =
    let l = c.items in
    let going : (after_end_array l.reader ≡ None) × (c.take_end_array.new.self ≡ l.reader) = c.items-test.ensures in
    let one = rw (c.in-Ok-None.field-0-is, going.1) at c.in-Ok-None.ensures.read in
    let less : length c.next_rule.new.reader < length l.reader = rw going.1 at c.in-Ok-None.ensures.shorter in
    record {
      so_far = read_goes_on c.args.depth c.args.kind c.args.reader.now l.reader c.next_rule.new.reader one.0 l.rules.items c.next_rule.new.rules.items l.invariant.so_far going.0 one.1 less one.2;
      shorter = omega (arith, l.invariant.shorter, less);
      taken = c.in-Ok-None.ensures.taken (ap Ok c.in-Ok-None.field-0-is);
      calm = rw c.in-Ok-None.field-0-is at c.in-Ok-None.ensures.calm ∙ l.invariant.calm;
    }

pub returns-in-Ok-Some-clause-refused : goal.returns-in-Ok-Some-clause-refused
returns-in-Ok-Some-clause-refused g c =
    let l = c.items in
    let going : (after_end_array l.reader ≡ None) × (c.take_end_array.new.self ≡ l.reader) = c.items-test.ensures in
    let one = rw (c.in-Ok-Some.field-0-is, going.1) at c.in-Ok-Some.ensures.read in
    let less : length c.next_rule.new.reader < length l.reader = rw going.1 at c.in-Ok-Some.ensures.shorter in
    read_refuses c.args.depth c.args.kind c.args.reader.now l.reader c.next_rule.new.reader one.0 l.rules.items
    (Rose (g.H.RegexHost.faults l.host) (g.H.RegexHost.faults c.next_rule.new.host)) (Rose (g.H.RegexHost.faults c.args.host.now) (g.H.RegexHost.faults c.next_rule.new.host))
    c.in-Ok-Some.refusal l.invariant.so_far going.0 one.1 less
    (rose_since (g.H.RegexHost.faults c.args.host.now) (g.H.RegexHost.faults l.host) (g.H.RegexHost.faults c.next_rule.new.host) (omega (arith, l.invariant.calm))) one.2

pub returns-in-Err-clause-bad : goal.returns-in-Err-clause-bad
returns-in-Err-clause-bad g c = λ e.
    let l = c.items in
    let going : (after_end_array l.reader ≡ None) × (c.take_end_array.new.self ≡ l.reader) = c.items-test.ensures in
    not_passed c.args.depth c.args.reader.now l.reader l.invariant.so_far.passed going.0 (rw going.1 at (c.in-Err.ensures.bad e))

pub returns-clause-end : goal.returns-clause-end
returns-clause-end g c = λ e. let l = c.items in read_ends c.args.depth c.args.kind c.args.reader.now l.reader c.take_end_array.new.self l.rules.items l.invariant.so_far c.items-test.ensures

pub returns-in-Ok-Some-clause-shorter : goal.returns-in-Ok-Some-clause-shorter
returns-in-Ok-Some-clause-shorter g c =
    let l = c.items in
    let going : (after_end_array l.reader ≡ None) × (c.take_end_array.new.self ≡ l.reader) = c.items-test.ensures in
    let less : length c.next_rule.new.reader < length l.reader = rw going.1 at c.in-Ok-Some.ensures.shorter in
    omega (arith, l.invariant.shorter, less)

pub returns-clause-shorter : goal.returns-clause-shorter
returns-clause-shorter g c =
    let l = c.items in
    let less = after_end_array-shorter l.reader c.take_end_array.new.self c.items-test.ensures in
    omega (arith, l.invariant.shorter, less)
