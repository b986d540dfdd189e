use Rattle.std.proofs.Common.{◌≡◌, ◌<◌, ◌∷◌, ◌∙◌, ap, arith, length, refl}
use Rattle.abp_parse.specs.Cut.{pieces_left}
use Rattle.list_spec.specs.LineKind.{lines_of}
use Rattle.abp_compile.proofs.Asking.{asked_begins, asked_on, asked_all, asked_first, all_first}
use Rattle.abp_compile.proofs.Walk.{begins, goes_on, ends_filters, stops_there}
use Rattle.abp_compile.proofs.lines.take_lines.Goals as goal

pub lines-preserved : goal.lines-preserved
lines-preserved g c =
    let line = c.cut_line.result.0.now in
    let more = pieces_left 10 c.cut_line.result.1 in
    let cut : lines_of c.lines.rest.now ≡ line ∷ more = c.cut_line.ensures.lines in
    let less : length c.in-Some.later.now < length c.lines.rest.now = rw c.in-Some.is at c.cut_line.ensures.shorter in
    record {
      at = goes_on c.args.lines.now c.lines.rest.now line more c.lines.number c.lines.taken.groups c.take_line.new.taken.groups c.lines.taken.reported.items c.take_line.new.taken.reported.items c.in-Some.later.now c.lines.invariant.at cut
          (ap (pieces_left 10) c.in-Some.is) c.in-Ok.ensures.takes c.in-Ok.ensures.reported;
      found = c.in-Ok.ensures.found;
      short = omega (arith, c.lines.invariant.short, less);
      asked = asked_on g.H.RegexHost.asks c.args.host.now c.lines.host c.take_line.new.host c.args.lines.now c.lines.rest.now line more c.in-Some.later.now c.lines.invariant.asked cut
          (ap (pieces_left 10) c.in-Some.is) c.in-Ok.ensures.asked;
      calm = c.in-Ok.ensures.calm ∙ c.lines.invariant.calm;
    }

pub returns-in-Err-clause-stops : goal.returns-in-Err-clause-stops
returns-in-Err-clause-stops g c =
    stops_there c.args.lines.now c.lines.rest.now c.cut_line.result.0.now (pieces_left 10 c.cut_line.result.1) c.lines.number c.lines.taken.groups c.take_line.new.taken.groups c.lines.taken.reported.items c.take_line.new.taken.reported.items
    c.lines.invariant.at c.cut_line.ensures.lines c.in-Err.refusal c.in-Err.ensures.stops

pub lines-init : goal.lines-init
lines-init g c = record {
  at = begins c.args.lines.now c.new.result c.new-2.result.items c.new.ensures.filters c.new-2.ensures.items;
  found = c.new.ensures.found;
  short = omega arith;
  asked = asked_begins g.H.RegexHost.asks c.args.host.now c.args.lines.now;
  calm = refl;
}

pub returns-in-None-clause-filters : goal.returns-in-None-clause-filters
returns-in-None-clause-filters g c =
    ends_filters c.args.lines.now c.lines.rest.now c.cut_line.result.0.now (pieces_left 10 c.cut_line.result.1) c.lines.number c.lines.taken.groups c.take_line.new.taken.groups c.lines.taken.reported.items c.take_line.new.taken.reported.items
    c.lines.invariant.at c.cut_line.ensures.lines (ap (pieces_left 10) c.in-None.is) c.in-Ok.ensures.takes

pub returns-in-None-clause-asked : goal.returns-in-None-clause-asked
returns-in-None-clause-asked g c =
    asked_all g.H.RegexHost.asks c.args.host.now c.lines.host c.take_line.new.host c.args.lines.now c.lines.rest.now c.cut_line.result.0.now (pieces_left 10 c.cut_line.result.1)
    c.lines.invariant.asked c.cut_line.ensures.lines (ap (pieces_left 10) c.in-None.is) c.in-Ok.ensures.asked

pub returns-in-None-clause-tried : goal.returns-in-None-clause-tried
returns-in-None-clause-tried g c = all_first g.H.RegexHost.asks c.args.host.now c.take_line.new.host _
    (asked_all g.H.RegexHost.asks c.args.host.now c.lines.host c.take_line.new.host c.args.lines.now c.lines.rest.now c.cut_line.result.0.now (pieces_left 10 c.cut_line.result.1)
    c.lines.invariant.asked c.cut_line.ensures.lines (ap (pieces_left 10) c.in-None.is) c.in-Ok.ensures.asked)

pub returns-in-Err-clause-tried : goal.returns-in-Err-clause-tried
returns-in-Err-clause-tried g c =
    asked_first g.H.RegexHost.asks c.args.host.now c.lines.host c.take_line.new.host c.args.lines.now c.lines.rest.now c.cut_line.result.0.now (pieces_left 10 c.cut_line.result.1)
    c.lines.invariant.asked c.cut_line.ensures.lines c.take_line.ensures.tried
