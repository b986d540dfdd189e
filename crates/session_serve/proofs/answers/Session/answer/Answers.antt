use Rattle.std.proofs.Common.{◌≡◌, ◌≢◌, ◌∷◌, ◌%◌, length, map, string_bytes, Ok, refl, rules}
use Rattle.dnr_base.specs.Faults.{Rose}
use Rattle.line_spec.specs.declared.line_fault.LineFault.TheVariants.{NoMemory}
use Rattle.session_laws.proofs.Rises.{none_fell_yet}
use Rattle.session_serve.proofs.AtFault.{fault_other}
use Rattle.session_serve.proofs.Told.{fault_said}
use Rattle.session_serve.proofs.answers.Session.answer.Goals as goal

pub returns-in-Err-NoMemory-clause-later : goal.returns-in-Err-NoMemory-clause-later
returns-in-Err-NoMemory-clause-later g c = (c.in-Err-NoMemory.ensures.later, none_fell_yet (map g.H.RegexHost.faults c.args.finders.now))

pub returns-in-Ok-say : goal.returns-in-Ok-say
returns-in-Ok-say g c =
    let named : c.in-Err.fault ≢ NoMemory = search rules in
    rw (← c.self.view_is) (record {
      told = fault_said {T = Unit {0}} {E = Unit {0}} (Ok tt) (record { suffixes = c.self.inside.generation.suffixes; workers = length c.args.finders.now; updates = c.self.inside.updates; follows = c.self.inside.follows })
          c.self.inside.generation.state c.args.number (c.args.asked % length c.args.finders.now) c.args.line.now c.in-Err.fault (string_bytes c.args.into.now) (string_bytes c.say.new.into)
          (g.H.RegexHost.faults c.args.checker.now) (g.H.RegexHost.faults c.read_line_with.new.host) (map g.H.RegexHost.faults c.args.finders.now)
          c.in-Err.ensures.later named c.in-Err.ensures.refused c.in-Ok-say.ensures;
      kind = fault_other c.args.number c.args.line.now (Rose (g.H.RegexHost.faults c.args.checker.now) (g.H.RegexHost.faults c.read_line_with.new.host)) c.in-Err.fault named c.in-Err.ensures.refused;
      suffixes = refl;
      updates = refl;
      follows = refl;
      seats = refl;
      later = (c.in-Err.ensures.later, none_fell_yet (map g.H.RegexHost.faults c.args.finders.now));
    })

pub returns : goal.returns
returns g c = rw (← c.self.view_is) (record {
  told = tt;
  kind = tt;
  suffixes = refl;
  updates = refl;
  follows = refl;
  seats = refl;
  later = (c.in-Err.ensures.later, none_fell_yet (map g.H.RegexHost.faults c.args.finders.now));
})
