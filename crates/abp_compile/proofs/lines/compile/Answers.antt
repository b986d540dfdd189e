use Rattle.std.proofs.Common.{◌≡◌, ◌∙◌, length, sym, arith}
use Rattle.list_spec.specs.LineKind.{lines_of}
use Rattle.compile_spec.specs.Compiled.{compiled}
use Rattle.abp_compile.specs.declared.report.CompileRefusal.TheVariants.{HostFault}
use Rattle.abp_compile.proofs.Stands.{give_rules, of_groups}
use Rattle.abp_compile.proofs.Walk.{same_cause, length-compiled, rules_compiled, origins_compiled, reported_whole}
use Rattle.abp_compile.proofs.lines.compile.Goals as goal

pub returns-in-Err-clause-cause : goal.returns-in-Err-clause-cause
returns-in-Err-clause-cause g c = λ line. same_cause (HostFault line) (g.H.RegexHost.faults c.args.host.now) (g.H.RegexHost.faults c.take_lines.new.host) c.in-Err.refusal (c.in-Err.ensures.cause line)

pub rules_of-requires : goal.rules_of-requires
rules_of-requires g c = give_rules c.groups_give_rules.ensures c.in-Ok.taken.groups (lines_of c.args.lines.now) c.in-Ok.ensures.filters

pub returns-then-work-gt-MAX_RULES-clause-too_many : goal.returns-then-work-gt-MAX_RULES-clause-too_many
returns-then-work-gt-MAX_RULES-clause-too_many g c =
    let drafts = of_groups c.in_ok-work.work c.in-Ok.taken.groups (lines_of c.args.lines.now) c.in-Ok.ensures.filters c.in_ok-work.ensures in
    let count : c.in_ok-work.work.count ≡ length (compiled (lines_of c.args.lines.now)) = drafts.counted ∙ sym (length-compiled (lines_of c.args.lines.now)) in
    (omega (arith, count), count)

pub returns-clause-rules : goal.returns-clause-rules
returns-clause-rules g c =
    rules_compiled (lines_of c.args.lines.now) c.in_ok-work.work (of_groups c.in_ok-work.work c.in-Ok.taken.groups (lines_of c.args.lines.now) c.in-Ok.ensures.filters c.in_ok-work.ensures) (omega arith)

pub returns-clause-origins : goal.returns-clause-origins
returns-clause-origins g c =
    origins_compiled (lines_of c.args.lines.now) c.in_ok-work.work (of_groups c.in_ok-work.work c.in-Ok.taken.groups (lines_of c.args.lines.now) c.in-Ok.ensures.filters c.in_ok-work.ensures) (omega arith)

pub returns-clause-reported : goal.returns-clause-reported
returns-clause-reported g c = c.build.ensures ∙ c.in-Ok.ensures.reported ∙ reported_whole (lines_of c.args.lines.now)

pub returns-clause-few : goal.returns-clause-few
returns-clause-few g c =
    let drafts = of_groups c.in_ok-work.work c.in-Ok.taken.groups (lines_of c.args.lines.now) c.in-Ok.ensures.filters c.in_ok-work.ensures in
    let count : c.in_ok-work.work.count ≡ length (compiled (lines_of c.args.lines.now)) = drafts.counted ∙ sym (length-compiled (lines_of c.args.lines.now)) in
    omega (arith, count)
