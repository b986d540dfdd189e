use Rattle.std.proofs.Common.{string_bytes}
use Rattle.session_spec.specs.Answers.{Decides}
use Rattle.session_serve.proofs.Told.{verdict_told, fault_told}
use Rattle.session_serve.proofs.deciding.decide.Goals as goal

pub returns-in-Ok-clause-told : goal.returns-in-Ok-clause-told
returns-in-Ok-clause-told g c =
    verdict_told c.write_verdict.result c.args.generation.now.suffixes c.args.generation.now.state c.args.request.now c.args.number c.number.result c.in-Ok.verdict
    (string_bytes c.args.into.now) (string_bytes c.write_verdict.new.into) (g.H.RegexHost.faults c.args.finder.now) (g.H.RegexHost.faults c.decide_uncounted.new.host)
    c.in-Ok.ensures.verdict c.number.ensures c.in-Ok.ensures.ends c.write_verdict.ensures.appended

pub returns-in-Err-HostFault-clause-told : goal.returns-in-Err-HostFault-clause-told
returns-in-Err-HostFault-clause-told g c =
    fault_told c.say_fault.result (Decides c.args.generation.now.suffixes c.args.request.now) c.args.generation.now.state c.args.number c.number-in-Err-HostFault.result c.in-Err-HostFault.rule
    (string_bytes c.args.into.now) (string_bytes c.say_fault.new.into) (g.H.RegexHost.faults c.args.finder.now) (g.H.RegexHost.faults c.decide_uncounted.new.host)
    (rw c.in-Err-HostFault.field-0-is at c.in-Err-HostFault.ensures.ends).1 c.number-in-Err-HostFault.ensures (rw c.in-Err-HostFault.field-0-is at c.in-Err-HostFault.ensures.ends).0 c.say_fault.ensures
