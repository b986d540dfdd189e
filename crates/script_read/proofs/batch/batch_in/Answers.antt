use Rattle.std.proofs.Common.{◌≡◌, ◌≤◌, length, Some, sym, ap, ◌∙◌, arith}
use Rattle.serde_json.specs.View.{items_view}
use Rattle.dnr_base.specs.Faults.{Rose}
use Rattle.line_spec.specs.Batch.{elements_from, elements_of}
use Rattle.line_spec.specs.IsFault.{MayRefuse}
use Rattle.line_spec.specs.RequestLine.{count_of}
use Rattle.script_read.specs.Stops.{StopsInEach, StopsInList}
use Rattle.script_read.proofs.Asking.{if_err}
use Rattle.script_read.proofs.BatchIn.{batch_is_refused}
use Rattle.script_read.proofs.Limits.{count_is}
use Rattle.update_parts.specs.Batch.{items_kept}
use Rattle.script_read.proofs.batch.batch_in.Goals as goal

pub returns-in-Some-clause-refused : goal.returns-in-Some-clause-refused
returns-in-Some-clause-refused g c =
    let found = items_kept c.args.kept.now in
    let values = c.as_slice.result.now in
    let items = items_view values in
    let count : count_of items ≡ length values = count_is values in
    let some : 1 ≤ count_of items = omega (arith, count) in
    let few : count_of items ≤ 256 = omega (arith, count) in
    let rose : Type 0 = Rose (g.H.RegexHost.faults c.args.host.now) (g.H.RegexHost.faults c.each_update.new.host) in
    if_err c.each_update.result (MayRefuse (elements_from 0 items) (λ f. rose × StopsInEach 0 items f)) (MayRefuse (elements_of found) (λ f. rose × StopsInList found f))
    (λ fault h. batch_is_refused found items rose fault (ap items_kept c.in-Some.is ∙ ap (λ vs. Some (items_view vs)) (sym c.as_slice.ensures.value)) some few h) c.each_update.ensures.refused
