use Rattle.std.proofs.Common.{◌≡◌, ◌≤◌, true, arith, rules}
use Rattle.dnr_spec.specs.Lines.{max_lines}
use Rattle.dnr_io.proofs.Pieces.{one_more}
use Rattle.dnr_io.proofs.lines.Lines.next.Goals as goal

pub returns-then-self-clause-too_long : goal.returns-then-self-clause-too_long
returns-then-self-clause-too_long g c =
    let looked = c.in_ok-look.ensures in
    let is_found : c.in_ok-look.field-0 ≡ true = search rules in
    let full : max_lines ≤ c.self.inside.count = omega arith in
    λ is. rw (← c.self.view_is) (one_more _ c.look.new.self (g.S.Source.left c.look.new.source) c.self.inside.count looked.bytes (looked.found is_found) full)
