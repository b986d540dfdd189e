use Rattle.std.proofs.Common.{◌≡◌, ◌∙◌, sym, subst}
use Rattle.dnr_base.specs.Faults.{Rose}
use Rattle.json_spec.specs.Json.{tree_of}
use Rattle.ruleset_store.specs.Seen.{updates_seen}
use Rattle.script_read.proofs.Alike.{batch_alike}
use Rattle.script_read.proofs.BatchIn.{whole_is_refused}
use Rattle.script_read.proofs.LinesRead.{same_tree, batch_read, batch_stops}
use Rattle.update_parts.specs.Batch.{items_kept, HoldsBatch}
use Rattle.script_read.proofs.reading.batch_of.Goals as goal

pub returns-in-Ok-batch_in-clause-read : goal.returns-in-Ok-batch_in-clause-read
returns-in-Ok-batch_in-clause-read g c =
    let tree = tree_of c.args.bytes.now in
    let found = c.in-Ok.ensures.ok in
    let kept = items_kept c.in-Ok.kept in
    let same : found.0 ≡ c.requires.d = same_tree found.0 c.requires.d tree (sym found.1) c.requires.is in
    let holds : HoldsBatch kept c.requires.d = subst (HoldsBatch kept) same found.2 in
    batch_read c.args.line tree c.requires (Unit {0}) (updates_seen c.in-Ok-batch_in.updates)
    (sym (batch_alike kept c.requires.d holds) ∙ c.in-Ok-batch_in.ensures.read)

pub returns-clause-refused : goal.returns-clause-refused
returns-clause-refused g c =
    let tree = tree_of c.args.bytes.now in
    let found = c.in-Ok.ensures.ok in
    let kept = items_kept c.in-Ok.kept in
    let same : found.0 ≡ c.requires.d = same_tree found.0 c.requires.d tree (sym found.1) c.requires.is in
    let holds : HoldsBatch kept c.requires.d = subst (HoldsBatch kept) same found.2 in
    let rose : Type 0 = Rose (g.H.RegexHost.faults c.args.host.now) (g.H.RegexHost.faults c.batch_in.new.host) in
    batch_stops c.args.line tree c.requires rose c.in-Err.fault (whole_is_refused kept c.requires.d holds rose c.in-Err.fault c.in-Err.ensures.refused)
