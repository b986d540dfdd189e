use Rattle.std.proofs.Common.{◌++◌, List, sym, ap, ◌∙◌}
use Rattle.std.proofs.lemmas.List.{append-nil}
use Rattle.hide_spec.specs.HidingLine.{HidingLine}
use Rattle.hide_rules.specs.Seen.{lines_seen}
use Rattle.hide_rules.proofs.Filed.{seen_more, line_got, none_got}
use Rattle.hide_rules.proofs.candidates.push_line.Goals as goal

pub returns-in_ok-push : goal.returns-in_ok-push
returns-in_ok-push c =
    ap lines_seen c.in_ok-push.ensures.items ∙ seen_more c.args.found.now.items c.in-Some.line
    ∙ ap (λ (t : List HidingLine). lines_seen c.args.found.now.items ++ t) (sym (line_got c.args.lines.now c.args.place c.in-Some.line (rw c.in-Some.is at c.get.ensures.lookup)))

pub returns-in_default : goal.returns-in_default
returns-in_default c =
    sym (ap (λ (t : List HidingLine). lines_seen c.args.found.now.items ++ t) (none_got c.args.lines.now c.args.place (rw c.in_default.is at c.get.ensures.lookup)) ∙ append-nil (lines_seen c.args.found.now.items))
