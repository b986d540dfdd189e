use Rattle.std.proofs.Common.{arith, ◌≡◌, ◌+◌, List, [], ◌∷◌, ◌++◌, take, fold, IfOk, ◌∙◌, sym, ap, subst}
use Rattle.std.specs.Option.{option_copied}
use Rattle.std.proofs.lemmas.List.{take_more, take_all}
use Rattle.dnr_base.specs.declared.header.Header.{Header}
use Rattle.dnr_spec.specs.Headers.{HeaderOp, changed, in_order, headers_after}
use Rattle.header_actions.specs.Table.{listed, values_of, values_under}
use Rattle.header_actions.proofs.Changed.{goes_on, same_op, fold_more}
use Rattle.header_actions.proofs.Ordered.{listed-in_order}
use Rattle.header_actions.proofs.table.apply.Goals as goal

pub loop-op-preserved : goal.loop-op-preserved
loop-op-preserved c =
    let op = c.op-item.result in
    let headers = c.args.headers.now in
    let ops = c.args.ops.now in
    let index = c.loop-op.op-index in
    let list = fold changed headers (take index ops) in
    let read : HeaderOp = record { name = c.name.result.now; operation = c.operation.result; value = option_copied c.value.result } in
    let same : read ≡ op = same_op op c.name.result.now c.operation.result (option_copied c.value.result) c.name.ensures c.operation.ensures c.value.ensures.value in
    let more : fold changed headers (take (index + 1) ops) ≡ changed list read =
    ap (fold changed headers) (take_more ops index op (omega arith) ∙ ap (λ o. take index ops ++ o ∷ []) (sym c.op-item.is ∙ sym same))
    ∙ fold_more headers (take index ops) read in
    λ q. goes_on (values_under c.loop-op.table) (values_under c.change.new.table) list read c.loop-op.invariant c.in_ok-change.ensures q ∙ ap (values_of q) (sym more)

pub returns : goal.returns
returns c =
    let headers = c.args.headers.now in
    let ops = c.args.ops.now in
    let index = c.loop-op.op-index in
    let whole : take index ops ≡ ops = take_all index ops c.loop-op-test.false in
    let done : listed c.loop-op.table.entries ≡ headers_after headers ops =
    listed-in_order c.loop-op.table.entries (fold changed headers (take index ops)) c.headers_in.ensures.ordered c.loop-op.invariant
    ∙ ap (λ os. in_order (fold changed headers os)) whole in
    subst (λ (l : List Header). IfOk c.headers_in.result (λ list. list.items ≡ l)) done c.headers_in.ensures.listed
