use Rattle.std.proofs.Common.{◌≡◌, ◌++◌, subst}
use Rattle.std.specs.Prelude.{OnOk, IfErr}
use Rattle.list_spec.specs.LineKind as lines
use Rattle.list_spec.specs.Says.{filter_in, reason_of}
use Rattle.compile_spec.specs.Report.{report_of}
use Rattle.regex_host.specs.Asked.{AsksFor}
use Rattle.abp_compile.specs.Asked.{StopsOnlyAt, asked_at}
use Rattle.abp_compile.specs.Groups.{placed_in, Takes}
use Rattle.abp_compile.proofs.Asking.{on_ok, all_first}
use Rattle.abp_compile.proofs.lines.take_line.Goals as goal

pub returns-clause-takes : goal.returns-clause-takes
returns-clause-takes g c =
    subst (λ (l : lines.Line). OnOk c.take_parsed.result (Takes (placed_in c.args.number (filter_in l)) c.args.taken.now.groups c.take_parsed.new.taken.groups)) c.in_ok-parsed.ensures c.take_parsed.ensures.takes

pub returns-clause-reported : goal.returns-clause-reported
returns-clause-reported g c =
    subst (λ (l : lines.Line). OnOk c.take_parsed.result (c.take_parsed.new.taken.reported.items ≡ c.args.taken.now.reported.items ++ report_of c.args.number (reason_of l))) c.in_ok-parsed.ensures c.take_parsed.ensures.reported

pub returns-clause-stops : goal.returns-clause-stops
returns-clause-stops g c =
    subst (λ (l : lines.Line). IfErr c.take_parsed.result (StopsOnlyAt c.args.number l)) c.in_ok-parsed.ensures c.take_parsed.ensures.stops

pub returns-clause-asked : goal.returns-clause-asked
returns-clause-asked g c =
    on_ok c.take_parsed.result _ (subst (λ (l : lines.Line). AsksFor g.H.RegexHost.asks c.args.host.now (asked_at l) c.take_parsed.new.host) c.in_ok-parsed.ensures c.take_parsed.ensures.asked)

pub returns-clause-tried : goal.returns-clause-tried
returns-clause-tried g c =
    all_first g.H.RegexHost.asks c.args.host.now c.take_parsed.new.host _ (subst (λ (l : lines.Line). AsksFor g.H.RegexHost.asks c.args.host.now (asked_at l) c.take_parsed.new.host) c.in_ok-parsed.ensures c.take_parsed.ensures.asked)
