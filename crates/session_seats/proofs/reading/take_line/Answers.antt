use Rattle.std.proofs.Common.{◌≢◌, ℕ, Ok, Err, sym, subst, rules}
use Rattle.line_spec.specs.declared.line_fault.LineFault.TheVariants.{NoMemory}
use Rattle.session_seats.specs.Reading.{HasRead}
use Rattle.session_seats.proofs.Readings.{plain_read_so, read_well, read_faulty, taken_so}
use Rattle.session_seats.proofs.reading.take_line.Goals as goal

pub returns-in-Ok-clause-taken : goal.returns-in-Ok-clause-taken
returns-in-Ok-clause-taken g c =
    let was = g.H.RegexHost.faults c.args.checker.now in
    let is = g.H.RegexHost.faults c.finish.new.host in
    taken_so c.read_apart.result c.args.line.number c.args.line.bytes was is (record { number = c.number-number.result; read = Ok c.in-Ok.command })
    (subst (λ (n : ℕ). HasRead c.args.line.number c.args.line.bytes was is (record { number = n; read = Ok c.in-Ok.command })) (sym c.number-number.ensures)
    (read_well c.args.line.number c.args.line.bytes was is c.in-Ok.command c.in-Ok.ensures.read c.in-Ok.ensures.calm))
    c.read_apart.ensures

pub returns-in-Err-clause-taken : goal.returns-in-Err-clause-taken
returns-in-Err-clause-taken g c =
    let was = g.H.RegexHost.faults c.args.checker.now in
    let is = g.H.RegexHost.faults c.finish.new.host in
    let named : c.in-Err.fault ≢ NoMemory = search rules in
    taken_so c.read_apart-in-Err.result c.args.line.number c.args.line.bytes was is (record { number = c.number-number.result; read = Err c.in-Err.fault })
    (subst (λ (n : ℕ). HasRead c.args.line.number c.args.line.bytes was is (record { number = n; read = Err c.in-Err.fault })) (sym c.number-number.ensures)
    (read_faulty c.args.line.number c.args.line.bytes was is c.in-Err.fault named c.in-Err.ensures.later c.in-Err.ensures.refused))
    c.read_apart-in-Err.ensures

pub returns-then-is_plain-clause-taken : goal.returns-then-is_plain-clause-taken
returns-then-is_plain-clause-taken g c =
    let plain = c.is_plain.ensures c.if-is_plain.true in
    record { has = plain_read_so c.args.line (g.H.RegexHost.faults c.args.checker.now) (g.H.RegexHost.faults c.args.checker.now) plain (search rules); within = plain }
