use Rattle.std.proofs.Common.{rules, ◌≡◌, ◌∙◌, length, get_or, [], ap, sym}
use Rattle.std.proofs.lemmas.List.{ext_get_or}
use Rattle.lines_ahead.specs.Cut.{CutSeen}
use Rattle.lines_ahead.proofs.asking.ask_runs.Goals as goal

nothing : CutSeen
nothing = record { number = 0; bytes = [] }

pub returns : goal.returns
returns g c =
    let call = c.for_each_chunk_mut in
    let long : length call.new.s ≡ length c.args.lines.now = search rules in
    sym (ext_get_or nothing c.args.lines.now call.new.s (sym long) (λ i l.
    let at = (call.ensures.by_index i nothing l).1 in
    let said = at.call in
    let same : at.after_call.now ≡ at.argument.now = search rules in
    sym at.old_element ∙ sym (ap (λ lines. get_or lines at.offset nothing) same) ∙ at.new_element))
