use Rattle.std.proofs.Common.{◌≡◌, ◌<◌, ◌≤◌, length, Some, sym, subst, arith}
use Rattle.dnr_base.specs.Faults.{Rose}
use Rattle.json_fields.proofs.Times.{last_is, last_breaks}
use Rattle.rules_file.specs.Listed.{IsListed}
use Rattle.rules_file.proofs.listed.read_member.Goals as goal

pub returns-in-Ok-pass_others-clause-read : goal.returns-in-Ok-pass_others-clause-read
returns-in-Ok-pass_others-clause-read g c =
    let found = c.in-Ok-read_next_list.ensures.read in
    let less : length c.read_next_list.new.reader ≤ length c.seek_last.new.reader = omega (arith, c.in-Ok-read_next_list.ensures.shorter) in
    let all =
    last_is c.args.depth c.args.name.now c.args.reader.now c.seek_last.new.reader c.read_next_list.new.reader c.pass_others.new.reader found.0 c.in-Ok.ensures.ok found.1 less c.in-Ok-pass_others.ensures.ok in
    let rose : Type 0 = Rose (g.H.RegexHost.faults c.args.host.now) (g.H.RegexHost.faults c.read_next_list.new.host) in
    (all.0, all.1, subst (λ f. IsListed c.args.kind f rose c.in-Ok-read_next_list.listed) (sym all.2) found.2)

pub returns-in-Err-pass_others-clause-bad : goal.returns-in-Err-pass_others-clause-bad
returns-in-Err-pass_others-clause-bad g c = λ _.
    let found = c.in-Ok-read_next_list.ensures.read in
    let less : length c.read_next_list.new.reader ≤ length c.seek_last.new.reader = omega (arith, c.in-Ok-read_next_list.ensures.shorter) in
    last_breaks c.args.depth c.args.name.now c.args.reader.now c.seek_last.new.reader c.read_next_list.new.reader found.0 c.in-Ok.ensures.ok found.1 less c.in-Err-pass_others.ensures.bad
