use Rattle.std.proofs.Common.{arith, rules}
use Rattle.suffix_list.proofs.Matching.{matches_cut}
use Rattle.suffix_list.proofs.rule.matches_name.Goals as goal

pub returns-then-not-fits_label : goal.returns-then-not-fits_label
returns-then-not-fits_label c =
    let cut = matches_cut c.loop-rule_front.rule.now c.loop-rule_front.name.now c.split_last_label.result.0 c.split_last_label-in-loop-rule_front.result.0 c.split_last_label.result.1.now c.split_last_label-in-loop-rule_front.result.1.now c.split_last_label.ensures.labels c.split_last_label-in-loop-rule_front.ensures.labels in
    grind (arith, cut)

pub returns-in_default : goal.returns-in_default
returns-in_default c =
    let cut = matches_cut c.loop-rule_front.rule.now c.loop-rule_front.name.now c.split_last_label.result.0 c.split_last_label-in-loop-rule_front.result.0 c.split_last_label.result.1.now c.split_last_label-in-loop-rule_front.result.1.now c.split_last_label.ensures.labels c.split_last_label-in-loop-rule_front.ensures.labels in
    grind (arith, cut)

pub returns-in_default-name_front : goal.returns-in_default-name_front
returns-in_default-name_front c =
    let cut = matches_cut c.loop-rule_front.rule.now c.loop-rule_front.name.now c.split_last_label.result.0 c.split_last_label-in-loop-rule_front.result.0 c.split_last_label.result.1.now c.split_last_label-in-loop-rule_front.result.1.now c.split_last_label.ensures.labels c.split_last_label-in-loop-rule_front.ensures.labels in
    grind (arith, cut)

pub loop-rule_front-preserved : goal.loop-rule_front-preserved
loop-rule_front-preserved c =
    let cut = matches_cut c.loop-rule_front.rule.now c.loop-rule_front.name.now c.split_last_label.result.0 c.split_last_label-in-loop-rule_front.result.0 c.split_last_label.result.1.now c.split_last_label-in-loop-rule_front.result.1.now c.split_last_label.ensures.labels c.split_last_label-in-loop-rule_front.ensures.labels in
    (search rules, search rules, grind (arith, cut))
