use Rattle.std.proofs.Common.{sym, ◌∙◌}
use Rattle.json.proofs.Grammar.{left_some}
use Rattle.json_fields.specs.Last.{value_at}
use Rattle.update_parts.specs.Batch.{items_kept}
use Rattle.update_parts.proofs.BatchKept.{list_held, holds_still}
use Rattle.update_parts.proofs.batch.with_member.Goals as goal

pub returns-then-is_list_name-clause-read : goal.returns-then-is_list_name-clause-read
returns-then-is_list_name-clause-read c =
    list_held c.args.depth c.args.reader.now c.next_updates.new.reader c.args.name.now (items_kept c.args.before) c.next_updates.result (sym c.is_list_name.ensures ∙ c.if-is_list_name.true) c.next_updates.ensures.read

pub returns-in_ok-pass_value-clause-read : goal.returns-in_ok-pass_value-clause-read
returns-in_ok-pass_value-clause-read c =
    let d = left_some (value_at c.args.depth c.args.reader.now) c.pass_value.new.reader c.in_ok-pass_value.ensures.value in
    (d.0, d.1, λ ms h. holds_still c.args.name.now d.0 ms (items_kept c.args.before) (sym c.is_list_name.ensures ∙ c.if-is_list_name.false) h)
