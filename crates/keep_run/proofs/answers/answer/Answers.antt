use Rattle.std.proofs.Common.{◌≢◌, ◌≤◌, rules, refl, arith, string_bytes}
use Rattle.line_spec.specs.declared.line_fault.LineFault.TheVariants.{NoMemory}
use Rattle.keep_run.proofs.Told.{asked_told, fault_told}
use Rattle.keep_run.proofs.answers.answer.Goals as goal

pub returns-in_ok-serve-in-Ok-clause-told : goal.returns-in_ok-serve-in-Ok-clause-told
returns-in_ok-serve-in-Ok-clause-told g c =
    asked_told c.args.keep.now c.args.number c.args.line.now (string_bytes c.in_ok-serve-in-Ok.field-0) c.serve.new.keep
    (g.H.RegexHost.faults c.args.host.now) (g.H.RegexHost.faults c.read_line_with.new.host) c.in-Ok.ensures.later c.in_ok-serve-in-Ok.ensures.told

pub returns-in_ok-say-in-Err : goal.returns-in_ok-say-in-Err
returns-in_ok-say-in-Err g c =
    let named : c.in-Err.fault ≢ NoMemory = search rules in
    record {
      told = fault_told c.args.keep.now c.args.number c.args.line.now (string_bytes c.in_ok-say-in-Err.field-0) c.in-Err.fault
          (g.H.RegexHost.faults c.args.host.now) (g.H.RegexHost.faults c.read_line_with.new.host) c.in-Err.ensures.later named c.in-Err.ensures.refused c.in_ok-say-in-Err.ensures.told;
      agrees = c.requires.agrees;
      safe = tt;
      live = c.requires.live;
      name = refl;
      sound = λ told sound. sound;
      tells = refl;
      later = c.in-Err.ensures.later;
      cause = record { later = omega arith; failed = λ none. absurd (cc none) };
    }
