use Rattle.std.proofs.Common.{◌≤◌, subst, arith}
use Rattle.dnr_base.specs.Faults.{Rose}
use Rattle.dnr_spec.specs.Lines.{max_lines}
use Rattle.json_spec.specs.Json.{tree_of}
use Rattle.line_spec.specs.declared.command_name.CommandName.TheVariants as name
use Rattle.line_spec.specs.Line.{command_of_tree}
use Rattle.line_spec.specs.IsFault.{MayRefuse, IsFaultOfLine}
use Rattle.line_spec.specs.Stops.{StopsIn}
use Rattle.script_read.specs.Asked.{AsksFor, AsksForUpdates}
use Rattle.script_read.proofs.Asking.{if_err}
use Rattle.script_read.proofs.WholeLines.{all_read, line_stops}
use Rattle.script_read.proofs.reading.finish_line.Goals as goal

pub returns-in-Update-clause-read : goal.returns-in-Update-clause-read
returns-in-Update-clause-read g c =
    let line = c.args.line in
    let bytes = c.args.bytes.now in
    let asks : AsksForUpdates line bytes (name.Update c.in-Update.name) = subst (AsksFor line bytes) c.in-Update.is c.requires.asks in
    let small : line ≤ max_lines = omega arith in
    all_read line bytes asks.written small c.update_of.result c.update_of.ensures.read

pub returns-in-Update-clause-refused : goal.returns-in-Update-clause-refused
returns-in-Update-clause-refused g c =
    let line = c.args.line in
    let bytes = c.args.bytes.now in
    let asks : AsksForUpdates line bytes (name.Update c.in-Update.name) = subst (AsksFor line bytes) c.in-Update.is c.requires.asks in
    let small : line ≤ max_lines = omega arith in
    let rose : Type 0 = Rose (g.H.RegexHost.faults c.args.host.now) (g.H.RegexHost.faults c.update_of.new.host) in
    if_err c.update_of.result (MayRefuse (command_of_tree line (tree_of bytes)) (λ f. rose × StopsIn (tree_of bytes) f)) (IsFaultOfLine line bytes rose)
    (λ fault h. line_stops line bytes rose fault asks.written small h) c.update_of.ensures.refused

pub returns-in-Batch-clause-read : goal.returns-in-Batch-clause-read
returns-in-Batch-clause-read g c =
    let line = c.args.line in
    let bytes = c.args.bytes.now in
    let asks : AsksForUpdates line bytes name.Batch = subst (AsksFor line bytes) c.in-Batch.is c.requires.asks in
    let small : line ≤ max_lines = omega arith in
    all_read line bytes asks.written small c.batch_of.result c.batch_of.ensures.read

pub returns-in-Batch-clause-refused : goal.returns-in-Batch-clause-refused
returns-in-Batch-clause-refused g c =
    let line = c.args.line in
    let bytes = c.args.bytes.now in
    let asks : AsksForUpdates line bytes name.Batch = subst (AsksFor line bytes) c.in-Batch.is c.requires.asks in
    let small : line ≤ max_lines = omega arith in
    let rose : Type 0 = Rose (g.H.RegexHost.faults c.args.host.now) (g.H.RegexHost.faults c.batch_of.new.host) in
    if_err c.batch_of.result (MayRefuse (command_of_tree line (tree_of bytes)) (λ f. rose × StopsIn (tree_of bytes) f)) (IsFaultOfLine line bytes rose)
    (λ fault h. line_stops line bytes rose fault asks.written small h) c.batch_of.ensures.refused
