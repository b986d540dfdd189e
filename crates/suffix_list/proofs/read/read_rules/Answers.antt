use Rattle.std.proofs.Common.{◌≡◌, ◌+◌, ◌<◌, ◌≤◌, [], ◌∷◌, ◌++◌, length, map, eqb, true, false, Some, None, Ok, lit<, sym, ap, ◌∙◌, arith}
use Rattle.std.specs.List.{slice_split}
use Rattle.std.proofs.lemmas.Iterator.Consumers.{YieldsList-turn, YieldsList-end, YieldsList-at}
use Rattle.std.proofs.lemmas.Iterator.Splits.{YieldsList-from_str_split}
use Rattle.std.proofs.lemmas.List.{length_push, length-map, map-append}
use Rattle.std.proofs.lemmas.Result.{err_from_is_err_and}
use Rattle.dnr_spec.specs.Suffixes.{within_limit}
use Rattle.suffix_list.specs.Kept.{seen}
use Rattle.suffix_list.specs.Reading.{read_line, read_text}
use Rattle.suffix_list.proofs.Text.{IsReadSoFar, IsLineAt, so_far_same, so_far_push, so_far_full, so_far_refused, so_far_end, so_far_too_many, refused_as, text_of}
use Rattle.suffix_list.proofs.read.read_rules.Goals as goal

pub returns-in_err-rule : goal.returns-in_err-rule
returns-in_err-rule c =
    let turn = YieldsList-turn (YieldsList-at c.into_iter-line-iterator.ensures.into_iter_gives (YieldsList-from_str_split 10 c.args.text.now (lit< tt) c.split-line-items.ensures.text c.split-line-items.ensures.has_more c.split-line-items.ensures.pattern)) c.loop-line.yielded _ c.loop-line.yielded_by _ _ c.in-Some.line c.in-Some.is c.next.ensures.steps in
    let at : IsLineAt (slice_split (λ b. eqb b 10) c.args.text.now) (length c.loop-line.yielded) c.in-Some.line.now = record { within = turn.0; is = turn.1 } in
    let number : c.loop-line.number ≡ length c.loop-line.yielded = c.loop-line.invariant.2 in
    let p = err_from_is_err_and c.from_residual.result c.from_residual.ensures.1 in
    rw (p.1, p.2)
    (refused_as (read_line (c.loop-line.number + 1) c.in-Some.line.now) (read_text c.args.text.now) c.in_err-rule.field-0.0
    (λ h. text_of c.args.text.now ∙ ap within_limit (so_far_refused _ (length c.loop-line.yielded) c.loop-line.too_many _ c.in-Some.line.now c.in_err-rule.field-0.0 c.loop-line.invariant.3 at (sym (ap (λ n. read_line (n + 1) c.in-Some.line.now) number) ∙ h)))
    c.in_err-rule.ensures)

pub loop-line-preserved-in-Ok-1 : goal.loop-line-preserved-in-Ok-1
loop-line-preserved-in-Ok-1 c =
    let turn = YieldsList-turn (YieldsList-at c.into_iter-line-iterator.ensures.into_iter_gives (YieldsList-from_str_split 10 c.args.text.now (lit< tt) c.split-line-items.ensures.text c.split-line-items.ensures.has_more c.split-line-items.ensures.pattern)) c.loop-line.yielded _ c.loop-line.yielded_by _ _ c.in-Some.line c.in-Some.is c.next.ensures.steps in
    let at : IsLineAt (slice_split (λ b. eqb b 10) c.args.text.now) (length c.loop-line.yielded) c.in-Some.line.now = record { within = turn.0; is = turn.1 } in
    let number : c.loop-line.number ≡ length c.loop-line.yielded = c.loop-line.invariant.2 in
    let read : read_line (length c.loop-line.yielded + 1) c.in-Some.line.now ≡ Ok (Some (seen c.in-Some-2.rule)) = sym (ap (λ n. read_line (n + 1) c.in-Some.line.now) number) ∙ (rw c.in-Some-2.is at c.in_ok-rule.ensures) in
    let small : length (map seen c.loop-line.rules.items) < 65536 = omega (arith, length-map c.loop-line.rules.items seen) in
    let kept : map seen c.push.new.self.items ≡ map seen c.loop-line.rules.items ++ seen c.in-Some-2.rule ∷ [] = ap (λ rs. map seen rs) c.in-Ok.ensures.items ∙ map-append seen c.loop-line.rules.items (c.in-Some-2.rule ∷ []) in
    rw (length_push c.loop-line.yielded c.in-Some.line, kept) (tt, tt, omega arith, so_far_push _ (length c.loop-line.yielded) c.loop-line.too_many (map seen c.loop-line.rules.items) c.in-Some.line.now (seen c.in-Some-2.rule) c.loop-line.invariant.3 at read small)

pub loop-line-preserved-else-len-lt-MAX_RULES : goal.loop-line-preserved-else-len-lt-MAX_RULES
loop-line-preserved-else-len-lt-MAX_RULES c =
    let turn = YieldsList-turn (YieldsList-at c.into_iter-line-iterator.ensures.into_iter_gives (YieldsList-from_str_split 10 c.args.text.now (lit< tt) c.split-line-items.ensures.text c.split-line-items.ensures.has_more c.split-line-items.ensures.pattern)) c.loop-line.yielded _ c.loop-line.yielded_by _ _ c.in-Some.line c.in-Some.is c.next.ensures.steps in
    let at : IsLineAt (slice_split (λ b. eqb b 10) c.args.text.now) (length c.loop-line.yielded) c.in-Some.line.now = record { within = turn.0; is = turn.1 } in
    let number : c.loop-line.number ≡ length c.loop-line.yielded = c.loop-line.invariant.2 in
    let read : read_line (length c.loop-line.yielded + 1) c.in-Some.line.now ≡ Ok (Some (seen c.in-Some-2.rule)) = sym (ap (λ n. read_line (n + 1) c.in-Some.line.now) number) ∙ (rw c.in-Some-2.is at c.in_ok-rule.ensures) in
    let full : 65536 ≤ length (map seen c.loop-line.rules.items) = omega (arith, length-map c.loop-line.rules.items seen) in
    rw (length_push c.loop-line.yielded c.in-Some.line) (tt, tt, omega arith, so_far_full _ (length c.loop-line.yielded) c.loop-line.too_many (map seen c.loop-line.rules.items) c.in-Some.line.now (seen c.in-Some-2.rule) c.loop-line.invariant.3 at read full)

pub loop-line-preserved : goal.loop-line-preserved
loop-line-preserved c =
    let turn = YieldsList-turn (YieldsList-at c.into_iter-line-iterator.ensures.into_iter_gives (YieldsList-from_str_split 10 c.args.text.now (lit< tt) c.split-line-items.ensures.text c.split-line-items.ensures.has_more c.split-line-items.ensures.pattern)) c.loop-line.yielded _ c.loop-line.yielded_by _ _ c.in-Some.line c.in-Some.is c.next.ensures.steps in
    let at : IsLineAt (slice_split (λ b. eqb b 10) c.args.text.now) (length c.loop-line.yielded) c.in-Some.line.now = record { within = turn.0; is = turn.1 } in
    let number : c.loop-line.number ≡ length c.loop-line.yielded = c.loop-line.invariant.2 in
    let read : read_line (length c.loop-line.yielded + 1) c.in-Some.line.now ≡ Ok None = sym (ap (λ n. read_line (n + 1) c.in-Some.line.now) number) ∙ (rw c.in_default.is at c.in_ok-rule.ensures) in
    rw (length_push c.loop-line.yielded c.in-Some.line) (tt, tt, omega arith, so_far_same _ (length c.loop-line.yielded) c.loop-line.too_many (map seen c.loop-line.rules.items) c.in-Some.line.now c.loop-line.invariant.3 at read)

pub returns-then-too_many : goal.returns-then-too_many
returns-then-too_many c =
    let end = YieldsList-end (YieldsList-at c.into_iter-line-iterator.ensures.into_iter_gives (YieldsList-from_str_split 10 c.args.text.now (lit< tt) c.split-line-items.ensures.text c.split-line-items.ensures.has_more c.split-line-items.ensures.pattern)) c.loop-line.yielded _ c.loop-line.yielded_by _ _ c.in-None.is c.next.ensures.steps in
    let so_far : IsReadSoFar (slice_split (λ b. eqb b 10) c.args.text.now) (length c.loop-line.yielded) true (map seen c.loop-line.rules.items) = rw c.if-too_many.true at c.loop-line.invariant.3 in
    text_of c.args.text.now ∙ so_far_too_many _ (length c.loop-line.yielded) _ so_far end.1

pub returns : goal.returns
returns c =
    let end = YieldsList-end (YieldsList-at c.into_iter-line-iterator.ensures.into_iter_gives (YieldsList-from_str_split 10 c.args.text.now (lit< tt) c.split-line-items.ensures.text c.split-line-items.ensures.has_more c.split-line-items.ensures.pattern)) c.loop-line.yielded _ c.loop-line.yielded_by _ _ c.in-None.is c.next.ensures.steps in
    let so_far : IsReadSoFar (slice_split (λ b. eqb b 10) c.args.text.now) (length c.loop-line.yielded) false (map seen c.loop-line.rules.items) = rw c.if-too_many.false at c.loop-line.invariant.3 in
    text_of c.args.text.now ∙ so_far_end _ (length c.loop-line.yielded) _ so_far end.1
