use Rattle.std.proofs.Common.{◌++◌, [], ◌∷◌, cond, Bool, sym, ap, ◌∙◌}
use Rattle.std.proofs.lemmas.List.{append-nil}
use Rattle.hide_rules.specs.Seen.{hiding_seen, lines_seen}
use Rattle.hide_rules.proofs.Filed.{seen_more}
use Rattle.hide_rules.proofs.index.push_general.Goals as goal

pub returns-in_ok-push : goal.returns-in_ok-push
returns-in_ok-push c =
    ap lines_seen c.in_ok-push.ensures.items ∙ seen_more c.args.general.now.items c.args.line
    ∙ ap (λ (b : Bool). lines_seen c.args.general.now.items ++ cond b (hiding_seen c.args.line.now ∷ []) []) (sym c.if-is_general.true ∙ c.is_general.ensures)

pub returns-else-is_general : goal.returns-else-is_general
returns-else-is_general c =
    sym (ap (λ (b : Bool). lines_seen c.args.general.now.items ++ cond b (hiding_seen c.args.line.now ∷ []) []) (sym c.is_general.ensures ∙ c.if-is_general.false) ∙ append-nil (lines_seen c.args.general.now.items))
