use Rattle.std.proofs.Common.{◌≡◌, ◌<◌, ◌+◌, [], ◌∷◌, ◌∙◌, ap, arith, length, refl}
use Rattle.abp_parse.specs.Cut.{pieces_left}
use Rattle.list_spec.specs.LineKind.{lines_of}
use Rattle.hide_rules.specs.Seen.{line_seen}
use Rattle.hide_rules.proofs.Walk.{goes_on, ends_lines, ends_report}
use Rattle.hide_rules.proofs.list.take_lines.Goals as goal

pub lines-preserved : goal.lines-preserved
lines-preserved c =
    let cut : lines_of c.lines.rest.now ≡ c.cut_at.result.0.now ∷ lines_of c.in-Some.later.now = c.cut_at.ensures.pieces ∙ ap (λ m. c.cut_at.result.0.now ∷ m) (ap (pieces_left 10) c.in-Some.is) in
    let less : length c.in-Some.later.now < length c.lines.rest.now = rw c.in-Some.is at c.cut_at.ensures.shorter in
    record {
      at = goes_on (lines_of c.args.lines.now) (lines_of c.lines.rest.now) c.cut_at.result.0.now (lines_of c.in-Some.later.now) c.lines.number c.lines.taken c.take.new.self (line_seen c.in_ok-read_line.field-0)
          c.lines.invariant.at cut c.in_ok-read_line.ensures c.in_ok-take.ensures;
      short = omega (arith, c.lines.invariant.short, less);
    }

pub returns-in-None-clause-lines : goal.returns-in-None-clause-lines
returns-in-None-clause-lines c =
    let cut : lines_of c.lines.rest.now ≡ c.cut_at.result.0.now ∷ [] = c.cut_at.ensures.pieces ∙ ap (λ m. c.cut_at.result.0.now ∷ m) (ap (pieces_left 10) c.in-None.is) in
    ends_lines (lines_of c.args.lines.now) [] (c.lines.number + 1) c.take.new.self (goes_on (lines_of c.args.lines.now) (lines_of c.lines.rest.now) c.cut_at.result.0.now [] c.lines.number c.lines.taken c.take.new.self (line_seen c.in_ok-read_line.field-0)
    c.lines.invariant.at cut c.in_ok-read_line.ensures c.in_ok-take.ensures) refl

pub returns-in-None-clause-reported : goal.returns-in-None-clause-reported
returns-in-None-clause-reported c =
    let cut : lines_of c.lines.rest.now ≡ c.cut_at.result.0.now ∷ [] = c.cut_at.ensures.pieces ∙ ap (λ m. c.cut_at.result.0.now ∷ m) (ap (pieces_left 10) c.in-None.is) in
    ends_report (lines_of c.args.lines.now) [] (c.lines.number + 1) c.take.new.self (goes_on (lines_of c.args.lines.now) (lines_of c.lines.rest.now) c.cut_at.result.0.now [] c.lines.number c.lines.taken c.take.new.self (line_seen c.in_ok-read_line.field-0)
    c.lines.invariant.at cut c.in_ok-read_line.ensures c.in_ok-take.ensures) refl
