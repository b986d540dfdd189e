use Rattle.std.proofs.Common.{◌≢◌, ◌≤◌, string_bytes, rules, arith}
use Rattle.line_spec.specs.declared.line_fault.LineFault.TheVariants.{NoMemory}
use Rattle.script_read.specs.Seen.{command_seen}
use Rattle.engine.proofs.Lines.{line_said, fault_left}
use Rattle.engine.proofs.answering.answer.Goals as goal

pub returns-in-Ok-clause-told : goal.returns-in-Ok-clause-told
returns-in-Ok-clause-told g c =
    line_said c.serve.result c.args.generation.now.suffixes c.args.generation.now.state c.args.number c.args.line.now (command_seen c.in-Ok.command) (string_bytes c.args.into.now) (string_bytes c.serve.new.into)
    (g.H.RegexHost.faults c.args.checker.now) (g.H.RegexHost.faults c.read_line_with.new.host) (g.H.RegexHost.faults c.args.finder.now) (g.H.RegexHost.faults c.serve.new.finder)
    c.in-Ok.ensures.read c.in-Ok.ensures.calm c.serve.ensures.told

pub returns-in-Ok-write_reply : goal.returns-in-Ok-write_reply
returns-in-Ok-write_reply g c =
    let named : c.in-Err.fault ≢ NoMemory = search rules in
    record {
      told = fault_left c.args.generation.now.suffixes c.args.generation.now.state c.args.number c.args.line.now c.in-Err.fault (string_bytes c.args.into.now) (string_bytes c.write_reply.new.into)
          (g.H.RegexHost.faults c.args.checker.now) (g.H.RegexHost.faults c.read_line_with.new.host) (g.H.RegexHost.faults c.args.finder.now)
          c.in-Err.ensures.later named c.in-Err.ensures.refused c.in-Ok-write_reply.ensures.appended;
      suffixes = tt;
      checker_later = c.in-Err.ensures.later;
      finder_later = omega arith;
    }
