use Rattle.std.proofs.Common.{sym, ◌∙◌}
use Rattle.serde_json.specs.View.{view}
use Rattle.dnr_base.specs.Faults.{Rose}
use Rattle.json_spec.specs.Json.{tree_of}
use Rattle.line_spec.specs.Updates.{update_in}
use Rattle.line_spec.specs.Stops.{StopsInUpdate}
use Rattle.script_read.specs.Apart.{replacing_with, update_of_tree, StopsApart, StopsInTheUpdate}
use Rattle.script_read.specs.Faults.{MayRefuse}
use Rattle.script_read.specs.Updates.{made_by}
use Rattle.script_read.proofs.Apart.{if_err, with_rules_stops, without_rules_stops}
use Rattle.script_read.proofs.updates.update_of_line.Goals as goal

pub returns-in-Some-clause-refused : goal.returns-in-Some-clause-refused
returns-in-Some-clause-refused g c =
    let tree = tree_of c.args.bytes.now in
    let kept = view c.args.kept.now in
    let kind = c.in-Some.kind in
    let rose : Type 0 = Rose (g.H.RegexHost.faults c.args.host.now) (g.H.RegexHost.faults c.replacing_with.new.host) in
    if_err c.replacing_with.result (MayRefuse (replacing_with kind (made_by kind) kept tree) (λ r. rose × StopsApart kind kept tree r))
    (MayRefuse (update_of_tree c.args.name tree) (λ r. rose × StopsInTheUpdate c.args.name tree r))
    (λ fault h. with_rules_stops kept tree c.requires c.args.name kind rose fault (sym c.added_by.ensures ∙ c.in-Some.is) h) c.replacing_with.ensures.refused

pub returns-in-None-clause-refused : goal.returns-in-None-clause-refused
returns-in-None-clause-refused g c =
    let tree = tree_of c.args.bytes.now in
    let kept = view c.args.kept.now in
    let rose : Type 0 = Rose (g.H.RegexHost.faults c.args.host.now) (g.H.RegexHost.faults c.update_in.new.host) in
    if_err c.update_in.result (MayRefuse (update_in c.args.name kept) (λ r. rose × StopsInUpdate c.args.name kept r))
    (MayRefuse (update_of_tree c.args.name tree) (λ r. rose × StopsInTheUpdate c.args.name tree r))
    (λ fault h. without_rules_stops kept tree c.requires c.args.name rose fault (sym c.added_by.ensures ∙ c.in-None.is) h) c.update_in.ensures.refused
