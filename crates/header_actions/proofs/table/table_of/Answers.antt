use Rattle.std.proofs.Common.{arith, ◌≡◌, ◌+◌, [], ◌∷◌, ◌++◌, take, Some, ◌∙◌, sym, ap}
use Rattle.std.proofs.lemmas.List.{take_more}
use Rattle.dnr_base.specs.declared.operation.Operation.TheVariants.{Append}
use Rattle.dnr_spec.specs.Headers.{HeaderOp, changed}
use Rattle.header_actions.specs.Table.{values_of, values_under}
use Rattle.header_actions.proofs.Changed.{goes_on, same_header}
use Rattle.header_actions.proofs.table.table_of.Goals as goal

pub loop-header-preserved : goal.loop-header-preserved
loop-header-preserved c =
    let header = c.header-item.result in
    let headers = c.args.headers.now in
    let index = c.loop-header.header-index in
    let name = c.as_str-in-loop-header.result.now in
    let value = c.as_str.result.now in
    let op : HeaderOp = record { name = name; operation = Append; value = Some value } in
    let more : take (index + 1) headers ≡ changed (take index headers) op =
    take_more headers index header (omega arith)
    ∙ ap (λ h. take index headers ++ h ∷ []) (sym c.header-item.is ∙ sym (same_header header name value c.as_str-in-loop-header.ensures c.as_str.ensures)) in
    λ q. goes_on (values_under c.loop-header.table) (values_under c.change.new.table) (take index headers) op c.loop-header.invariant c.in_ok-change.ensures q ∙ ap (values_of q) (sym more)
