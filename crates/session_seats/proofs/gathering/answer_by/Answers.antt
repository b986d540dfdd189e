use Rattle.std.proofs.Common.{sym, subst}
use Rattle.session_rounds.specs.Lines.{read_seen}
use Rattle.session_seats.specs.Told.{IsTold}
use Rattle.session_seats.specs.declared.told.Told.{Told}
use Rattle.session_seats.proofs.Gathered.{fault_told, told_kept}
use Rattle.session_seats.proofs.gathering.answer_by.Goals as goal
use Rattle.session_seats.proofs.gathering.answer_by.Goals.{in-Ok, in-Err-HostFault}

pub returns-clause-says : goal.returns-clause-says
returns-clause-says g c = λ entered.
    let told : IsTold g.P.Pair.opening (read_seen c.args.line.now.read) c.told_by.new.pass.seen c.match-told_by.told =
    elim c.match-told_by.branch [
      | in-Ok w ↦ subst (λ (t : Told). IsTold g.P.Pair.opening (read_seen c.args.line.now.read) c.told_by.new.pass.seen t) (sym w.told-is) w.in-Ok.ensures.told
      | in-Err-HostFault w ↦
          let ends = rw w.in-Err-HostFault.field-0-is at w.in-Err-HostFault.ensures.ends in
          subst (λ (t : Told). IsTold g.P.Pair.opening (read_seen c.args.line.now.read) c.told_by.new.pass.seen t) (sym w.told-is)
          (fault_told g.P.Pair.opening (read_seen c.args.line.now.read) c.told_by.new.pass.seen w.in-Err-HostFault.number w.in-Err-HostFault.rule c.requires.asks ends.0 ends.2)
    ] in
    told_kept g.P.Pair.opening (read_seen c.args.line.now.read) c.told_by.new.pass.seen c.args.place c.args.line.now.number c.match-told_by.told c.args.answers.now c.push.new.self told c.in_ok-push.ensures.more
