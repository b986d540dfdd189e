use Rattle.std.proofs.Common.{◌≡◌, ◌≢◌, ◌-◌, ◌<◌, ◌++◌, [], ◌∷◌, length, None, sym, ap, ◌∙◌, subst, arith}
use Rattle.std.proofs.lemmas.List.{length-append}
use Rattle.json.specs.Json.{parse_map, after_end_array, items, value}
use Rattle.json.proofs.Grammar.{left_none, left_some}
use Rattle.serde_json.specs.Data.{no_items, item}
use Rattle.serde_json.specs.Read.{of_items, converted}
use Rattle.json_fields.specs.Last.{value_at}
use Rattle.json_fields.proofs.Turns.{item_read, item_refused, items_over, none_before}
use Rattle.json_fields.proofs.Shaped.{bounds_same, data_before, one_more}
use Rattle.line_spec.specs.RequestLine.{count_of}
use Rattle.line_spec.specs.Batch.{max_batch}
use Rattle.update_parts.proofs.BatchKept.{AllKept, all_more, as_many, count_before, all_hold, too_long}
use Rattle.update_parts.proofs.batch.few_updates.Goals as goal

pub items-init : goal.items-init
items-init c = record {
  left = length c.args.reader.now;
  before = [];
  enough = omega arith;
  same = none_before (converted of_items (items (value c.args.depth) (length c.args.reader.now) c.args.reader.now));
  all = subst (AllKept c.args.depth []) (sym c.new-kept.ensures.items) tt;
  few = let none = ap length c.new-kept.ensures.items in omega (arith, none);
  shorter = omega arith;
}

pub returns-in_err-pass_value-clause-bad : goal.returns-in_err-pass_value-clause-bad
returns-in_err-pass_value-clause-bad c = λ _.
    let l = c.items in
    let going : (after_end_array l.reader ≡ None) × (c.take_end_array.new.self ≡ l.reader) = c.items-test.ensures in
    let none : value_at c.args.depth l.reader ≡ None = rw (← going.1) (left_none (value_at c.args.depth c.take_end_array.new.self) c.in_err-pass_value.ensures.value) in
    l.invariant.same ∙ ap (parse_map (data_before l.invariant.before)) (item_refused (value c.args.depth) l.invariant.left l.reader going.0 none)

pub returns-in_err-pass_items-clause-bad : goal.returns-in_err-pass_items-clause-bad
returns-in_err-pass_items-clause-bad c = λ _.
    let p = value c.args.depth in
    let l = c.items in
    let n = l.invariant.left in
    let going : (after_end_array l.reader ≡ None) × (c.take_end_array.new.self ≡ l.reader) = c.items-test.ensures in
    let r = c.pass_value.new.reader in
    let read = left_some (value_at c.args.depth c.take_end_array.new.self) r c.in_ok-pass_value.ensures.value in
    let less : length r < length l.reader = rw (← going.1) c.in_ok-pass_value.ensures.shorter in
    let enough = l.invariant.enough in
    let turn = item_read p n l.reader r read.0 (omega arith) going.0 (rw (← going.1) read.1) in
    let bound = bounds_same c.args.depth (n - 1) (length r) r (omega arith) (omega arith) in
    let none = left_none (converted of_items (items p (length r) r)) c.in_err-pass_items.ensures.value in
    l.invariant.same ∙ ap (parse_map (data_before l.invariant.before)) (turn ∙ ap (parse_map (item read.0)) (ap (converted of_items) bound ∙ none))

pub returns-then-len-eq-MAX_BATCH-clause-read : goal.returns-then-len-eq-MAX_BATCH-clause-read
returns-then-len-eq-MAX_BATCH-clause-read c =
    let p = value c.args.depth in
    let l = c.items in
    let n = l.invariant.left in
    let going : (after_end_array l.reader ≡ None) × (c.take_end_array.new.self ≡ l.reader) = c.items-test.ensures in
    let r = c.pass_value.new.reader in
    let read = left_some (value_at c.args.depth c.take_end_array.new.self) r c.in_ok-pass_value.ensures.value in
    let d = read.0 in
    let less : length r < length l.reader = rw (← going.1) c.in_ok-pass_value.ensures.shorter in
    let enough = l.invariant.enough in
    let turn = item_read p n l.reader r d (omega arith) going.0 (rw (← going.1) read.1) in
    let bound = bounds_same c.args.depth (n - 1) (length r) r (omega arith) (omega arith) in
    let rest = left_some (converted of_items (items p (length r) r)) c.pass_items.new.reader c.in_ok-pass_items.ensures.value in
    let more = l.invariant.before ++ d ∷ [] in
    let all = data_before more rest.0 in
    let full : length l.kept.items ≡ 256 = grind arith in
    let many = as_many c.args.depth l.invariant.before l.kept.items l.invariant.all in
    let count = count_before more rest.0 in
    let longer = length-append l.invariant.before (d ∷ []) in
    let long : max_batch < count_of all = omega (arith, full, many, count, longer) in (
      all,
      l.invariant.same ∙ ap (parse_map (data_before l.invariant.before)) turn ∙ one_more l.invariant.before d (converted of_items (items p (n - 1) r))
          ∙ ap (parse_map (data_before more)) (ap (converted of_items) bound ∙ rest.1),
      too_long all long,
    )

pub returns-in_err-update-clause-bad : goal.returns-in_err-update-clause-bad
returns-in_err-update-clause-bad c = λ e.
    let l = c.items in
    let going : (after_end_array l.reader ≡ None) × (c.take_end_array.new.self ≡ l.reader) = c.items-test.ensures in
    l.invariant.same ∙ ap (parse_map (data_before l.invariant.before)) (item_refused (value c.args.depth) l.invariant.left l.reader going.0 (rw (← going.1) (c.next_shaped.ensures.bad (grind (arith, e)))))

pub items-preserved : goal.items-preserved
items-preserved c =
    let p = value c.args.depth in
    let l = c.items in
    let n = l.invariant.left in
    let going : (after_end_array l.reader ≡ None) × (c.take_end_array.new.self ≡ l.reader) = c.items-test.ensures in
    let read = c.in_ok-update.ensures.ok in
    let d = read.0 in
    let r = c.next_shaped.new.reader in
    let less : length r < length l.reader = rw (← going.1) c.in_ok-update.ensures.shorter in
    let enough = l.invariant.enough in
    let turn = item_read p n l.reader r d (omega arith) going.0 (rw (← going.1) read.1) in
    let other : length l.kept.items ≢ 256 = λ full. grind arith in
    let longer = ap length c.in_ok-push.ensures.items ∙ length-append l.kept.items (c.in_ok-update.update ∷ []) in
    record {
      left = n - 1;
      before = l.invariant.before ++ d ∷ [];
      enough = omega arith;
      same = l.invariant.same ∙ ap (parse_map (data_before l.invariant.before)) turn ∙ one_more l.invariant.before d (converted of_items (items p (n - 1) r));
      all = subst (AllKept c.args.depth (l.invariant.before ++ d ∷ [])) (sym c.in_ok-push.ensures.items) (all_more c.args.depth l.invariant.before l.kept.items d c.in_ok-update.update l.invariant.all read.2);
      few = omega (arith, longer, other, l.invariant.few);
      shorter = omega (arith, l.invariant.shorter);
    }

pub returns-clause-read : goal.returns-clause-read
returns-clause-read c =
    let l = c.items in
    let r = c.take_end_array.new.self in (
      data_before l.invariant.before no_items,
      l.invariant.same ∙ ap (parse_map (data_before l.invariant.before)) (items_over (value c.args.depth) l.invariant.left l.reader r l.invariant.enough c.items-test.ensures),
      all_hold c.args.depth l.invariant.before l.kept.items l.invariant.all l.invariant.few,
    )
