use Rattle.std.proofs.Common.{Err, ◌∙◌, ap}
use Rattle.dnr_base.specs.Faults.{Rose}
use Rattle.script_read.specs.Seen.{command_seen}
use Rattle.rule_keep.specs.declared.refusals.Stop.TheVariants.{Refused, HostFault}
use Rattle.rule_keep.proofs.Stops.{same_err, refused_payload, host_rose, host_stays, read_command, map_ok}
use Rattle.rule_keep.proofs.take.read_payload.Goals as goal

pub returns-in-Ok-clause-read : goal.returns-in-Ok-clause-read
returns-in-Ok-clause-read g c =
    map_ok c.dynamic_in.result c.dynamic_in.ensures.read
    (λ update is. read_command c.args.name.now c.args.payload.now (command_seen c.in-Ok.command) c.in-Ok.ensures.read ∙ is)

pub returns-in-Ok-clause-refused : goal.returns-in-Ok-clause-refused
returns-in-Ok-clause-refused g c = λ is.
    read_command c.args.name.now c.args.payload.now (command_seen c.in-Ok.command) c.in-Ok.ensures.read ∙ c.dynamic_in.ensures.refused is

pub returns-in-Err-clause-refused : goal.returns-in-Err-clause-refused
returns-in-Err-clause-refused g c = λ is.
    let old = g.H.RegexHost.faults c.args.host.now in
    let new = g.H.RegexHost.faults c.read_line_with.new.host in
    refused_payload c.args.name.now c.args.payload.now (Rose old new) old new c.in-Err.fault c.stop_of.result c.stop_of.ensures c.in-Err.ensures.refused
    c.in-Err.ensures.calm (same_err c.stop_of.result Refused is)

pub returns-in-Err-clause-fault : goal.returns-in-Err-clause-fault
returns-in-Err-clause-fault g c = λ is.
    let old = g.H.RegexHost.faults c.args.host.now in
    let new = g.H.RegexHost.faults c.read_line_with.new.host in
    host_rose c.args.name.now c.args.payload.now (Rose old new) old new c.in-Err.fault c.stop_of.result c.stop_of.ensures c.in-Err.ensures.refused
    c.in-Err.ensures.calm (same_err c.stop_of.result HostFault is)

pub returns-in-Err-clause-calm : goal.returns-in-Err-clause-calm
returns-in-Err-clause-calm g c = λ not_host.
    let old = g.H.RegexHost.faults c.args.host.now in
    let new = g.H.RegexHost.faults c.read_line_with.new.host in
    host_stays c.args.name.now c.args.payload.now (Rose old new) old new c.in-Err.fault c.stop_of.result c.stop_of.ensures c.in-Err.ensures.refused
    c.in-Err.ensures.calm (λ is. not_host (ap Err is))
