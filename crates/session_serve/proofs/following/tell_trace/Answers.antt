use Rattle.std.proofs.Common.{string_bytes}
use Rattle.session_serve.proofs.Told.{trace_told, hop_fault_told}
use Rattle.session_serve.proofs.following.tell_trace.Goals as goal

pub returns-in-Ok-clause-told : goal.returns-in-Ok-clause-told
returns-in-Ok-clause-told g c =
    trace_told c.write_trace.result c.args.generation.now.suffixes c.args.generation.now.state c.args.request.now c.args.number c.in-Ok.trace
    (string_bytes c.args.into.now) (string_bytes c.write_trace.new.into) (g.H.RegexHost.faults c.args.finder.now) (g.H.RegexHost.faults c.trace_of.new.host)
    c.in-Ok.ensures.trace c.in-Ok.ensures.ends c.write_trace.ensures.appended

pub returns-in-Err-HostFault-clause-told : goal.returns-in-Err-HostFault-clause-told
returns-in-Err-HostFault-clause-told g c =
    let ends = (rw c.in-Err-HostFault.field-0-is at c.in-Err-HostFault.ensures.ends) in
    hop_fault_told c.write_hop_fault.result c.args.generation.now.suffixes c.args.generation.now.state c.args.request.now c.args.number c.in-Err-HostFault.hop c.in-Err-HostFault.rule
    (string_bytes c.args.into.now) (string_bytes c.write_hop_fault.new.into) (g.H.RegexHost.faults c.args.finder.now) (g.H.RegexHost.faults c.trace_of.new.host)
    ends.1.pattern ends.1.within ends.0 c.write_hop_fault.ensures.appended
