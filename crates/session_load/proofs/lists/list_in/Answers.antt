use Rattle.std.proofs.Common.{ap, Err}
use Rattle.dnr_base.specs.Faults.{Rose}
use Rattle.session_load.proofs.Read.{too_many, host_fault}
use Rattle.session_load.proofs.lists.list_in.Goals as goal

pub returns-in-Err-TooManyRules-clause-stops : goal.returns-in-Err-TooManyRules-clause-stops
returns-in-Err-TooManyRules-clause-stops g c =
    too_many (Rose (g.H.RegexHost.faults c.args.host.now) (g.H.RegexHost.faults c.compile.new.host)) c.args.name.now c.args.bytes.now
    c.in-Err-TooManyRules.field-0 c.in-Err-TooManyRules.count c.too_many.result c.in-Err-TooManyRules.field-0-is c.in-Err-TooManyRules.ensures.too_many c.too_many.ensures

pub returns-in-Err-HostFault-clause-stops : goal.returns-in-Err-HostFault-clause-stops
returns-in-Err-HostFault-clause-stops g c =
    host_fault (Rose (g.H.RegexHost.faults c.args.host.now) (g.H.RegexHost.faults c.compile.new.host)) c.args.name.now c.args.bytes.now
    c.in-Err-HostFault.field-0 c.in-Err-HostFault.line c.failed.result c.in-Err-HostFault.field-0-is
    ((c.in-Err-HostFault.ensures.cause c.in-Err-HostFault.line).failed (ap Err c.in-Err-HostFault.field-0-is)) c.in-Err-HostFault.ensures.stops c.failed.ensures

pub returns-in-Err-HostFault-clause-later : goal.returns-in-Err-HostFault-clause-later
returns-in-Err-HostFault-clause-later g c = (c.in-Err-HostFault.ensures.cause c.in-Err-HostFault.line).later
