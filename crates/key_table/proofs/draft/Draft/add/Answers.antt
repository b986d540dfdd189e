use Rattle.std.proofs.Common.{arith, ◌≡◌, ◌++◌, ◌∷◌, [], List, length, ap, ◌∙◌, Result, Ok, Err}
use Rattle.std.specs.Result.{OnErr}
use Rattle.key_table.specs.Pairs.{Pair}
use Rattle.key_table.specs.Hash.{tag_of}
use Rattle.key_table.specs.Kept.{pairs_in}
use Rattle.key_table.proofs.Longer.{pairs_in_longer, pairs_more, entries_more}
use Rattle.key_table.proofs.draft.Draft.add.Goals as goal

on_err : {T E : Type 0} (r : Result T E) (P : Type 0) → P → OnErr r P
on_err (Ok x) P p = tt
on_err (Err e) P p = p

pub returns-in_err-push-clause-same : goal.returns-in_err-push-clause-same
returns-in_err-push-clause-same c =
    let same : pairs_in c.extend_from_slice.new.self.items c.push.new.self.items ≡ c.args.self.now =
    rw (c.in_ok-extend_from_slice.ensures.items, c.in_err-push.ensures.items) (pairs_in_longer _ _ _ c.self.invariant ∙ c.self.view_is) in
    on_err c.from_residual-in_err-push.result (pairs_in c.extend_from_slice.new.self.items c.push.new.self.items ≡ c.args.self.now) same

pub invariant_of-self-2 : goal.invariant_of-self-2
invariant_of-self-2 c =
    let at : c.in_ok-at.at ≡ length c.self.inside.texts.items = omega (arith, c.self.inside.texts.ok.0) in
    rw (c.in_ok-extend_from_slice.ensures.items, c.in_ok-push.ensures.items)
    (entries_more _ _ _ _ c.self.invariant at c.in_ok-len.ensures (c.tag-tag.ensures ∙ ap tag_of c.exactly.ensures))

pub returns-clause-added : goal.returns-clause-added
returns-clause-added c =
    let at : c.in_ok-at.at ≡ length c.self.inside.texts.items = omega (arith, c.self.inside.texts.ok.0) in
    rw (c.in_ok-extend_from_slice.ensures.items, c.in_ok-push.ensures.items)
    (pairs_more _ _ _ _ c.self.invariant at c.in_ok-len.ensures
    ∙ ap (λ (pairs : List Pair). pairs ++ record { key = c.args.key.now; place = c.args.place; needed = c.args.needed } ∷ []) c.self.view_is)
