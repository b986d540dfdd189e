use Rattle.std.proofs.Common.{is_some, true, ◌≡◌, ◌-◌, ◌<◌, ◌≤◌, ◌++◌, [], ◌∷◌, length, Some, None, refl, sym, ap, ap₂, ◌∙◌, subst, arith}
use Rattle.std.proofs.lemmas.Bool.Decides.{nat_tests}
use Rattle.std.proofs.lemmas.Grind.{common_steps}
use Rattle.std.proofs.lemmas.List.{length-append}
use Rattle.json.specs.Token.{Token}
use Rattle.json.specs.Json.{parse_map, after_end_array, read_key, items, members, value}
use Rattle.json.specs.Reads.{token_of}
use Rattle.json.proofs.Grammar.{left_none, left_some, value_is, value-begin_array, value-begin_object, read_key-shorter, after_end_array-shorter}
use Rattle.serde_json.specs.Data.{no_members, no_items, null, boolean, number, string, array, object, item, put}
use Rattle.serde_json.specs.Read.{of_json, of_items, converted}
use Rattle.serde_json.specs.View.{view, number_view, items_view, members_view}
use Rattle.serde_json.specs.Find.{as_null}
use Rattle.serde_json.proofs.Views.{view-Array}
use Rattle.json_fields.specs.Last.{value_at}
use Rattle.json_fields.specs.Shapes.{Kept, KeptItems, KeptFew, has_few, KeptMembers, kept_number, kept_truth}
use Rattle.json_fields.proofs.Turns.{converted-array, converted-object, item_read, item_refused, items_over, member_read, member_refused, key_refused, members_over, none_before}
use Rattle.json_fields.proofs.Keeping.{null_is}
use Rattle.json_fields.proofs.Shaped.{then_ok, bounds_same, none_kept, member_kept, member_passed, data_before, one_more, AllKept, all_more, all_are, up_to, EachIs, each_more, few_are, more_are, text_given, list_given, object_given}
use Rattle.json_fields.proofs.shape.+shape.Goals as goal

-- ---- a value

pub next_shaped-returns-in_err-token-clause-bad : goal.next_shaped-returns-in_err-token-clause-bad
next_shaped-returns-in_err-token-clause-bad g t c = λ _.
    let empty : c.args.reader.now ≡ [] = grind arith in
    ap (converted of_json) (ap (value c.args.depth) empty ∙ value_is c.args.depth [])

pub next_shaped-returns-then-depth-eq0-clause-bad : goal.next_shaped-returns-then-depth-eq0-clause-bad
unfolding value
next_shaped-returns-then-depth-eq0-clause-bad g t c = λ _.
    let first : c.args.reader.now ≡ token_of c.in_ok-token.token ∷ c.next.new.self = grind arith in
    let none : c.args.depth ≡ 0 = omega arith in
    ap (converted of_json) (ap₂ value none (first ∙ ap (λ k. token_of k ∷ c.next.new.self) c.in-BeginArray.is))

pub next_shaped-returns-then-depth-eq0-2-clause-bad : goal.next_shaped-returns-then-depth-eq0-2-clause-bad
unfolding value
next_shaped-returns-then-depth-eq0-2-clause-bad g t c = λ _.
    let first : c.args.reader.now ≡ token_of c.in_ok-token.token ∷ c.next.new.self = grind arith in
    let none : c.args.depth ≡ 0 = omega arith in
    ap (converted of_json) (ap₂ value none (first ∙ ap (λ k. token_of k ∷ c.next.new.self) c.in-BeginObject.is))

pub next_shaped-returns-in-String-clause-ok : goal.next_shaped-returns-in-String-clause-ok
next_shaped-returns-in-String-clause-ok g t c =
    let first : c.args.reader.now ≡ token_of c.in_ok-token.token ∷ c.next.new.self = grind arith in
    let s = c.in-String.text.now in
    let is : c.args.reader.now ≡ Token.string s ∷ c.next.new.self = grind (arith, first) in
    let at : value_at c.args.depth c.args.reader.now ≡ Some (string s, c.next.new.self) = ap (converted of_json) (ap (value c.args.depth) is ∙ value_is c.args.depth (Token.string s ∷ c.next.new.self)) in
    text_given g.S.Shape.wants g.S.Shape.item_shape g.S.Shape.member_shape g.S.Shape.accepts c.args.depth c.args.shape c.args.reader.now c.next.new.self s c.wanted.result c.text_kept.result c.wanted.ensures at c.text_kept.ensures.ok

pub next_shaped-returns-in-Bool-clause-ok : goal.next_shaped-returns-in-Bool-clause-ok
next_shaped-returns-in-Bool-clause-ok g t c =
    let first : c.args.reader.now ≡ token_of c.in_ok-token.token ∷ c.next.new.self = grind arith in
    let b = c.in-Bool.truth in
    let is : c.args.reader.now ≡ Token.boolean b ∷ c.next.new.self = grind (arith, first) in
    (boolean b, ap (converted of_json) (ap (value c.args.depth) is ∙ value_is c.args.depth (Token.boolean b ∷ c.next.new.self)), c.truth_kept.ensures ∙ ap (λ w. kept_truth w b) c.wanted-in-Bool.ensures)

pub next_shaped-returns-in-Null-clause-ok : goal.next_shaped-returns-in-Null-clause-ok
next_shaped-returns-in-Null-clause-ok g t c =
    let first : c.args.reader.now ≡ token_of c.in_ok-token.token ∷ c.next.new.self = grind arith in
    let is : c.args.reader.now ≡ Token.null ∷ c.next.new.self = grind (arith, first) in
    (null, ap (converted of_json) (ap (value c.args.depth) is ∙ value_is c.args.depth (Token.null ∷ c.next.new.self)), null_is)

pub next_shaped-returns-in-Some-clause-ok : goal.next_shaped-returns-in-Some-clause-ok
next_shaped-returns-in-Some-clause-ok g t c =
    let first : c.args.reader.now ≡ token_of c.in_ok-token.token ∷ c.next.new.self = grind arith in
    let n = number_view c.in-Some.number in
    let is : c.args.reader.now ≡ Token.number c.in-Number.text.now ∷ c.next.new.self = grind (arith, first) in (
      number n,
      ap (converted of_json) (ap (value c.args.depth) is ∙ value_is c.args.depth (Token.number c.in-Number.text.now ∷ c.next.new.self)) ∙ rw (← c.in-Some.ensures),
      c.number_kept.ensures ∙ ap (λ w. kept_number w n) c.wanted-in-Some.ensures,
    )

pub next_shaped-returns-in-None-clause-bad : goal.next_shaped-returns-in-None-clause-bad
next_shaped-returns-in-None-clause-bad g t c = λ _.
    let first : c.args.reader.now ≡ token_of c.in_ok-token.token ∷ c.next.new.self = grind arith in
    let is : c.args.reader.now ≡ Token.number c.in-Number.text.now ∷ c.next.new.self = grind (arith, first) in
    ap (converted of_json) (ap (value c.args.depth) is ∙ value_is c.args.depth (Token.number c.in-Number.text.now ∷ c.next.new.self)) ∙ rw (← c.in-None.ensures)

pub next_shaped-returns-in-EndObject-clause-bad : goal.next_shaped-returns-in-EndObject-clause-bad
next_shaped-returns-in-EndObject-clause-bad g t c = λ _.
    let first : c.args.reader.now ≡ token_of c.in_ok-token.token ∷ c.next.new.self = grind arith in
    let none : value c.args.depth c.args.reader.now ≡ None = rw (value_is c.args.depth c.args.reader.now, first) (grind arith) in
    ap (converted of_json) none

pub next_shaped-returns-else-depth-eq0-clause-ok : goal.next_shaped-returns-else-depth-eq0-clause-ok
next_shaped-returns-else-depth-eq0-clause-ok g t c =
    let first : c.args.reader.now ≡ token_of c.in_ok-token.token ∷ c.next.new.self = grind arith in
    let some : 0 < c.args.depth = omega arith in
    let opened = ap (converted of_json) (ap (value c.args.depth) (first ∙ ap (λ k. token_of k ∷ c.next.new.self) c.in-BeginArray.is) ∙ value-begin_array c.args.depth c.next.new.self some) ∙ converted-array (items (value (c.args.depth - 1)) (length c.next.new.self) c.next.new.self) in
    list_given g.S.Shape.wants g.S.Shape.item_shape g.S.Shape.member_shape g.S.Shape.accepts c.args.depth c.args.shape c.args.reader.now c.list_kept.new.reader c.next.new.self c.list_kept.result some opened c.list_kept.ensures.ok

pub next_shaped-returns-else-depth-eq0-clause-bad : goal.next_shaped-returns-else-depth-eq0-clause-bad
next_shaped-returns-else-depth-eq0-clause-bad g t c = λ e.
    let first : c.args.reader.now ≡ token_of c.in_ok-token.token ∷ c.next.new.self = grind arith in
    let some : 0 < c.args.depth = omega arith in
    let opened = ap (converted of_json) (ap (value c.args.depth) (first ∙ ap (λ k. token_of k ∷ c.next.new.self) c.in-BeginArray.is) ∙ value-begin_array c.args.depth c.next.new.self some) ∙ converted-array (items (value (c.args.depth - 1)) (length c.next.new.self) c.next.new.self) in
    opened ∙ ap (parse_map array) (c.list_kept.ensures.bad e)

pub next_shaped-returns-else-depth-eq0-2-clause-ok : goal.next_shaped-returns-else-depth-eq0-2-clause-ok
next_shaped-returns-else-depth-eq0-2-clause-ok g t c =
    let first : c.args.reader.now ≡ token_of c.in_ok-token.token ∷ c.next.new.self = grind arith in
    let some : 0 < c.args.depth = omega arith in
    let opened = ap (converted of_json) (ap (value c.args.depth) (first ∙ ap (λ k. token_of k ∷ c.next.new.self) c.in-BeginObject.is) ∙ value-begin_object c.args.depth c.next.new.self some) ∙ converted-object (members (value (c.args.depth - 1)) (length c.next.new.self) c.next.new.self) in
    object_given g.S.Shape.wants g.S.Shape.item_shape g.S.Shape.member_shape g.S.Shape.accepts c.args.depth c.args.shape c.args.reader.now c.object_kept.new.reader c.next.new.self c.object_kept.result some opened c.object_kept.ensures.ok

pub next_shaped-returns-else-depth-eq0-2-clause-bad : goal.next_shaped-returns-else-depth-eq0-2-clause-bad
next_shaped-returns-else-depth-eq0-2-clause-bad g t c = λ e.
    let first : c.args.reader.now ≡ token_of c.in_ok-token.token ∷ c.next.new.self = grind arith in
    let some : 0 < c.args.depth = omega arith in
    let opened = ap (converted of_json) (ap (value c.args.depth) (first ∙ ap (λ k. token_of k ∷ c.next.new.self) c.in-BeginObject.is) ∙ value-begin_object c.args.depth c.next.new.self some) ∙ converted-object (members (value (c.args.depth - 1)) (length c.next.new.self) c.next.new.self) in
    opened ∙ ap (parse_map object) (c.object_kept.ensures.bad e)

-- ---- items

pub items_kept-items-init : goal.items_kept-items-init
items_kept-items-init g t c = record {
  left = length c.args.reader.now;
  before = [];
  enough = omega arith;
  same = none_before (converted of_items (items (value c.args.depth) (length c.args.reader.now) c.args.reader.now));
  all = subst (AllKept (Kept g.S.Shape.wants g.S.Shape.item_shape g.S.Shape.member_shape g.S.Shape.accepts c.args.depth c.args.shape) []) (sym c.new-found.ensures.items) tt;
  shorter = omega arith;
}

pub items_kept-returns-in_err-item-clause-bad : goal.items_kept-returns-in_err-item-clause-bad
items_kept-returns-in_err-item-clause-bad g t c = λ e.
    let l = c.items in
    let going : (after_end_array l.reader ≡ None) × (c.take_end_array.new.self ≡ l.reader) = c.items-test.ensures in
    l.invariant.same ∙ ap (parse_map (data_before l.invariant.before)) (item_refused (value c.args.depth) l.invariant.left l.reader going.0 (rw (← going.1) (c.next_shaped.ensures.bad (grind (arith, e)))))

pub items_kept-items-preserved : goal.items_kept-items-preserved
items_kept-items-preserved g t c =
    let p = value c.args.depth in
    let l = c.items in
    let n = l.invariant.left in
    let going : (after_end_array l.reader ≡ None) × (c.take_end_array.new.self ≡ l.reader) = c.items-test.ensures in
    let read = c.in_ok-item.ensures.ok in
    let d = read.0 in
    let v = c.in_ok-item.item in
    let r = c.next_shaped.new.reader in
    let less : length r < length l.reader = rw (← going.1) c.in_ok-item.ensures.shorter in
    let enough = l.invariant.enough in
    let turn = item_read p n l.reader r d (omega arith) going.0 (rw (← going.1) read.1) in
    let keeps = Kept g.S.Shape.wants g.S.Shape.item_shape g.S.Shape.member_shape g.S.Shape.accepts c.args.depth c.args.shape in
    record {
      left = n - 1;
      before = l.invariant.before ++ d ∷ [];
      enough = omega arith;
      same = l.invariant.same ∙ ap (parse_map (data_before l.invariant.before)) turn ∙ one_more l.invariant.before d (converted of_items (items p (n - 1) r));
      all = subst (AllKept keeps (l.invariant.before ++ d ∷ [])) (sym c.in_ok-push.ensures.items) (all_more keeps l.invariant.before l.found.items d v l.invariant.all read.2 (sym c.is_null-is_last.ensures ∙ c.if-is_last.false));
      shorter = omega (arith, l.invariant.shorter);
    }

pub items_kept-returns-in_err-pass_items-clause-bad : goal.items_kept-returns-in_err-pass_items-clause-bad
items_kept-returns-in_err-pass_items-clause-bad g t c = λ _.
    let p = value c.args.depth in
    let l = c.items in
    let n = l.invariant.left in
    let going : (after_end_array l.reader ≡ None) × (c.take_end_array.new.self ≡ l.reader) = c.items-test.ensures in
    let read = c.in_ok-item.ensures.ok in
    let r = c.next_shaped.new.reader in
    let less : length r < length l.reader = rw (← going.1) c.in_ok-item.ensures.shorter in
    let enough = l.invariant.enough in
    let turn = item_read p n l.reader r read.0 (omega arith) going.0 (rw (← going.1) read.1) in
    let bound = bounds_same c.args.depth (n - 1) (length r) r (omega arith) (omega arith) in
    let none = left_none (converted of_items (items p (length r) r)) c.in_err-pass_items.ensures.value in
    l.invariant.same ∙ ap (parse_map (data_before l.invariant.before)) (turn ∙ ap (parse_map (item read.0)) (ap (converted of_items) bound ∙ none))

pub items_kept-returns-then-is_last-clause-ok : goal.items_kept-returns-then-is_last-clause-ok
items_kept-returns-then-is_last-clause-ok g t c =
    let p = value c.args.depth in
    let l = c.items in
    let n = l.invariant.left in
    let going : (after_end_array l.reader ≡ None) × (c.take_end_array.new.self ≡ l.reader) = c.items-test.ensures in
    let read = c.in_ok-item.ensures.ok in
    let d = read.0 in
    let v = c.in_ok-item.item in
    let r = c.next_shaped.new.reader in
    let less : length r < length l.reader = rw (← going.1) c.in_ok-item.ensures.shorter in
    let enough = l.invariant.enough in
    let turn = item_read p n l.reader r d (omega arith) going.0 (rw (← going.1) read.1) in
    let bound = bounds_same c.args.depth (n - 1) (length r) r (omega arith) (omega arith) in
    let rest = left_some (converted of_items (items p (length r) r)) c.pass_items.new.reader c.in_ok-pass_items.ensures.value in
    let last : is_some (as_null (view v)) ≡ true = sym c.is_null-is_last.ensures ∙ c.if-is_last.true in
    let keeps = Kept g.S.Shape.wants g.S.Shape.item_shape g.S.Shape.member_shape g.S.Shape.accepts c.args.depth c.args.shape in
    let all = data_before (l.invariant.before ++ d ∷ []) rest.0 in (
      all,
      l.invariant.same ∙ ap (parse_map (data_before l.invariant.before)) turn ∙ one_more l.invariant.before d (converted of_items (items p (n - 1) r))
          ∙ ap (parse_map (data_before (l.invariant.before ++ d ∷ []))) (ap (converted of_items) bound ∙ rest.1),
      subst (λ vs. KeptItems keeps all (items_view vs)) (sym c.in_ok-push.ensures.items) (up_to keeps l.invariant.before l.found.items d v rest.0 l.invariant.all read.2 last),
    )

pub items_kept-returns-then-is_last-clause-shorter : goal.items_kept-returns-then-is_last-clause-shorter
items_kept-returns-then-is_last-clause-shorter g t c =
    let l = c.items in
    let going : (after_end_array l.reader ≡ None) × (c.take_end_array.new.self ≡ l.reader) = c.items-test.ensures in
    let less : length c.next_shaped.new.reader < length l.reader = rw (← going.1) c.in_ok-item.ensures.shorter in
    omega (arith, less, l.invariant.shorter, c.in_ok-pass_items.ensures.shorter)

pub items_kept-returns-clause-ok : goal.items_kept-returns-clause-ok
items_kept-returns-clause-ok g t c =
    let l = c.items in
    let r = c.take_end_array.new.self in (
      data_before l.invariant.before no_items,
      l.invariant.same ∙ ap (parse_map (data_before l.invariant.before)) (items_over (value c.args.depth) l.invariant.left l.reader r l.invariant.enough c.items-test.ensures),
      all_are (Kept g.S.Shape.wants g.S.Shape.item_shape g.S.Shape.member_shape g.S.Shape.accepts c.args.depth c.args.shape) l.invariant.before l.found.items l.invariant.all,
    )

pub items_kept-returns-clause-shorter : goal.items_kept-returns-clause-shorter
items_kept-returns-clause-shorter g t c =
    let l = c.items in
    let less = after_end_array-shorter l.reader c.take_end_array.new.self c.items-test.ensures in
    omega (arith, l.invariant.shorter, less)

-- ---- few items

pub few_kept-items-init : goal.few_kept-items-init
few_kept-items-init g t c = record {
  left = length c.args.reader.now;
  before = [];
  enough = omega arith;
  same = none_before (converted of_items (items (value c.args.depth) (length c.args.reader.now) c.args.reader.now));
  all = subst (EachIs (Kept g.S.Shape.wants g.S.Shape.item_shape g.S.Shape.member_shape g.S.Shape.accepts c.args.depth c.args.shape) []) (sym c.new-found.ensures.items) tt;
  few = subst (λ vs. length vs ≤ c.args.most) (sym c.new-found.ensures.items) (omega arith);
  shorter = omega arith;
}

pub few_kept-returns-in_err-item-clause-bad : goal.few_kept-returns-in_err-item-clause-bad
few_kept-returns-in_err-item-clause-bad g t c = λ e.
    let l = c.items in
    let going : (after_end_array l.reader ≡ None) × (c.take_end_array.new.self ≡ l.reader) = c.items-test.ensures in
    l.invariant.same ∙ ap (parse_map (data_before l.invariant.before)) (item_refused (value c.args.depth) l.invariant.left l.reader going.0 (rw (← going.1) (c.next_shaped.ensures.bad (grind (arith, e)))))

pub few_kept-items-preserved : goal.few_kept-items-preserved
few_kept-items-preserved g t c =
    let p = value c.args.depth in
    let l = c.items in
    let n = l.invariant.left in
    let going : (after_end_array l.reader ≡ None) × (c.take_end_array.new.self ≡ l.reader) = c.items-test.ensures in
    let read = c.in_ok-item.ensures.ok in
    let d = read.0 in
    let v = c.in_ok-item.item in
    let r = c.next_shaped.new.reader in
    let less : length r < length l.reader = rw (← going.1) c.in_ok-item.ensures.shorter in
    let enough = l.invariant.enough in
    let turn = item_read p n l.reader r d (omega arith) going.0 (rw (← going.1) read.1) in
    let keeps = Kept g.S.Shape.wants g.S.Shape.item_shape g.S.Shape.member_shape g.S.Shape.accepts c.args.depth c.args.shape in
    record {
      left = n - 1;
      before = l.invariant.before ++ d ∷ [];
      enough = omega arith;
      same = l.invariant.same ∙ ap (parse_map (data_before l.invariant.before)) turn ∙ one_more l.invariant.before d (converted of_items (items p (n - 1) r));
      all = subst (EachIs keeps (l.invariant.before ++ d ∷ [])) (sym c.in_ok-push.ensures.items) (each_more keeps l.invariant.before l.found.items d v l.invariant.all read.2);
      few = subst (λ vs. length vs ≤ c.args.most) (sym c.in_ok-push.ensures.items) (let more = length-append l.found.items (c.in_ok-item.item ∷ []) in grind (arith, common_steps, nat_tests, more, l.invariant.few, c.if-len-most.false));
      shorter = omega (arith, l.invariant.shorter);
    }

pub few_kept-returns-in_err-pass_value-clause-bad : goal.few_kept-returns-in_err-pass_value-clause-bad
few_kept-returns-in_err-pass_value-clause-bad g t c = λ _.
    let l = c.items in
    let going : (after_end_array l.reader ≡ None) × (c.take_end_array.new.self ≡ l.reader) = c.items-test.ensures in
    let none = left_none (value_at c.args.depth c.take_end_array.new.self) c.in_err-pass_value.ensures.value in
    l.invariant.same ∙ ap (parse_map (data_before l.invariant.before)) (item_refused (value c.args.depth) l.invariant.left l.reader going.0 (rw (← going.1) none))

pub few_kept-returns-in_err-pass_items-clause-bad : goal.few_kept-returns-in_err-pass_items-clause-bad
few_kept-returns-in_err-pass_items-clause-bad g t c = λ _.
    let p = value c.args.depth in
    let l = c.items in
    let n = l.invariant.left in
    let going : (after_end_array l.reader ≡ None) × (c.take_end_array.new.self ≡ l.reader) = c.items-test.ensures in
    let r = c.pass_value.new.reader in
    let passed = left_some (value_at c.args.depth c.take_end_array.new.self) r c.in_ok-pass_value.ensures.value in
    let less : length r < length l.reader = rw (← going.1) c.in_ok-pass_value.ensures.shorter in
    let enough = l.invariant.enough in
    let turn = item_read p n l.reader r passed.0 (omega arith) going.0 (rw (← going.1) passed.1) in
    let bound = bounds_same c.args.depth (n - 1) (length r) r (omega arith) (omega arith) in
    let none = left_none (converted of_items (items p (length r) r)) c.in_err-pass_items.ensures.value in
    l.invariant.same ∙ ap (parse_map (data_before l.invariant.before)) (turn ∙ ap (parse_map (item passed.0)) (ap (converted of_items) bound ∙ none))

pub few_kept-returns-then-len-most-clause-ok : goal.few_kept-returns-then-len-most-clause-ok
few_kept-returns-then-len-most-clause-ok g t c =
    let p = value c.args.depth in
    let l = c.items in
    let n = l.invariant.left in
    let going : (after_end_array l.reader ≡ None) × (c.take_end_array.new.self ≡ l.reader) = c.items-test.ensures in
    let r = c.pass_value.new.reader in
    let passed = left_some (value_at c.args.depth c.take_end_array.new.self) r c.in_ok-pass_value.ensures.value in
    let d = passed.0 in
    let less : length r < length l.reader = rw (← going.1) c.in_ok-pass_value.ensures.shorter in
    let enough = l.invariant.enough in
    let turn = item_read p n l.reader r d (omega arith) going.0 (rw (← going.1) passed.1) in
    let bound = bounds_same c.args.depth (n - 1) (length r) r (omega arith) (omega arith) in
    let rest = left_some (converted of_items (items p (length r) r)) c.pass_items.new.reader c.in_ok-pass_items.ensures.value in
    let keeps = Kept g.S.Shape.wants g.S.Shape.item_shape g.S.Shape.member_shape g.S.Shape.accepts c.args.depth c.args.shape in
    let all = data_before (l.invariant.before ++ d ∷ []) rest.0 in (
      all,
      l.invariant.same ∙ ap (parse_map (data_before l.invariant.before)) turn ∙ one_more l.invariant.before d (converted of_items (items p (n - 1) r))
          ∙ ap (parse_map (data_before (l.invariant.before ++ d ∷ []))) (ap (converted of_items) bound ∙ rest.1),
      subst (KeptFew keeps (has_few c.args.most all) all) (sym null_is) (more_are keeps c.args.most l.invariant.before l.found.items d rest.0 l.invariant.all (grind (arith, common_steps, nat_tests, c.if-len-most.true))),
    )

pub few_kept-returns-then-len-most-clause-shorter : goal.few_kept-returns-then-len-most-clause-shorter
few_kept-returns-then-len-most-clause-shorter g t c =
    let l = c.items in
    let going : (after_end_array l.reader ≡ None) × (c.take_end_array.new.self ≡ l.reader) = c.items-test.ensures in
    let less : length c.pass_value.new.reader < length l.reader = rw (← going.1) c.in_ok-pass_value.ensures.shorter in
    omega (arith, less, l.invariant.shorter, c.in_ok-pass_items.ensures.shorter)

pub few_kept-returns-clause-ok : goal.few_kept-returns-clause-ok
few_kept-returns-clause-ok g t c =
    let l = c.items in
    let r = c.take_end_array.new.self in
    let keeps = Kept g.S.Shape.wants g.S.Shape.item_shape g.S.Shape.member_shape g.S.Shape.accepts c.args.depth c.args.shape in
    let all = data_before l.invariant.before no_items in (
      all,
      l.invariant.same ∙ ap (parse_map (data_before l.invariant.before)) (items_over (value c.args.depth) l.invariant.left l.reader r l.invariant.enough c.items-test.ensures),
      subst (KeptFew keeps (has_few c.args.most all) all) (sym (view-Array l.found)) (few_are keeps c.args.most l.invariant.before l.found.items l.invariant.all l.invariant.few),
    )

pub few_kept-returns-clause-shorter : goal.few_kept-returns-clause-shorter
few_kept-returns-clause-shorter g t c =
    let l = c.items in
    let less = after_end_array-shorter l.reader c.take_end_array.new.self c.items-test.ensures in
    omega (arith, l.invariant.shorter, less)

-- ---- members

pub members_kept-members-init : goal.members_kept-members-init
members_kept-members-init g t c =
    let keeps = Kept g.S.Shape.wants g.S.Shape.item_shape g.S.Shape.member_shape g.S.Shape.accepts c.args.depth in
    record {
      left = length c.args.reader.now;
      found = no_members;
      enough = omega arith;
      same = refl;
      holds = subst (λ es. KeptMembers keeps (g.S.Shape.member_shape c.args.shape) no_members (members_view es)) (sym c.new-kept.ensures.empty) (none_kept keeps (g.S.Shape.member_shape c.args.shape));
      shorter = omega arith;
    }

pub members_kept-returns-in_err-name-clause-bad : goal.members_kept-returns-in_err-name-clause-bad
members_kept-returns-in_err-name-clause-bad g t c = λ _.
    let l = c.members in
    l.invariant.same ∙ key_refused (value c.args.depth) l.invariant.found l.invariant.left l.reader c.in_err-name.ensures.value

pub members_kept-members-preserved : goal.members_kept-members-preserved
members_kept-members-preserved g t c =
    let p = value c.args.depth in
    let l = c.members in
    let n = l.invariant.left in
    let k = c.in-Some.name.now in
    let s = c.next_key.new.self in
    let named : read_key l.reader ≡ Some (Some k, s) = grind arith in
    let one = c.in_ok-keep_member.ensures.ok in
    let r = c.keep_member.new.reader in
    let less = read_key-shorter l.reader (Some k) s named in
    let lesser = c.in_ok-keep_member.ensures.shorter in
    let enough = l.invariant.enough in
    record {
      left = n - 1;
      found = put k one.0 l.invariant.found;
      enough = omega arith;
      same = l.invariant.same ∙ member_read p l.invariant.found n k l.reader s r one.0 (omega arith) named one.1;
      holds = one.2 l.invariant.found l.invariant.holds;
      shorter = omega (arith, l.invariant.shorter);
    }

pub members_kept-returns-in_err-keep_member-clause-bad : goal.members_kept-returns-in_err-keep_member-clause-bad
members_kept-returns-in_err-keep_member-clause-bad g t c = λ e.
    let l = c.members in
    let k = c.in-Some.name.now in
    let s = c.next_key.new.self in
    let named : read_key l.reader ≡ Some (Some k, s) = grind arith in
    l.invariant.same ∙ member_refused (value c.args.depth) l.invariant.found l.invariant.left k l.reader s named (c.in_err-keep_member.ensures.bad (grind (arith, e)))

pub members_kept-returns-clause-ok : goal.members_kept-returns-clause-ok
members_kept-returns-clause-ok g t c =
    let l = c.members in
    let closed : read_key l.reader ≡ Some (None, c.next_key.new.self) = grind arith in
    (l.invariant.found, l.invariant.same ∙ members_over (value c.args.depth) l.invariant.found l.invariant.left l.reader c.next_key.new.self l.invariant.enough closed, l.invariant.holds)

pub members_kept-returns-clause-shorter : goal.members_kept-returns-clause-shorter
members_kept-returns-clause-shorter g t c =
    let l = c.members in
    let closed : read_key l.reader ≡ Some (None, c.next_key.new.self) = grind arith in
    let less = read_key-shorter l.reader None c.next_key.new.self closed in
    omega (arith, l.invariant.shorter, less)

pub keep_member-returns-in_ok-member-in-Some-clause-ok : goal.keep_member-returns-in_ok-member-in-Some-clause-ok
keep_member-returns-in_ok-member-in-Some-clause-ok g t c =
    let read = c.in_ok-member-in-Some.ensures.ok in
    let keeps = Kept g.S.Shape.wants g.S.Shape.item_shape g.S.Shape.member_shape g.S.Shape.accepts c.args.depth in
    let e = view c.in_ok-member-in-Some.member in
    let old = members_view c.args.kept.now.entries in
    let new = members_view c.put_member.new.kept.entries in
    then_ok c.put_member.result (new ≡ put c.args.name.now e old) _ c.put_member.ensures.ok
    (λ is. (read.0, read.1, member_kept keeps (g.S.Shape.member_shape c.args.shape) c.args.name.now read.0 c.in-Some.member_shape e old new (sym c.of_member.ensures ∙ c.in-Some.is) is read.2))

pub keep_member-returns-in_ok-pass_value-in-None-clause-ok : goal.keep_member-returns-in_ok-pass_value-in-None-clause-ok
keep_member-returns-in_ok-pass_value-in-None-clause-ok g t c =
    let d = left_some (value_at c.args.depth c.args.reader.now) c.pass_value.new.reader c.in_ok-pass_value-in-None.ensures.value in
    let keeps = Kept g.S.Shape.wants g.S.Shape.item_shape g.S.Shape.member_shape g.S.Shape.accepts c.args.depth in
    (d.0, d.1, member_passed keeps (g.S.Shape.member_shape c.args.shape) c.args.name.now d.0 (members_view c.args.kept.now.entries) (sym c.of_member.ensures ∙ c.in-None.is))
