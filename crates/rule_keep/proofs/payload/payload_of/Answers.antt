use Rattle.std.proofs.Common.{IsUtf8, ◌∙◌, ap, subst}
use Rattle.serde_json.specs.Written.{has_float, compact_text}
use Rattle.keep_spec.specs.Kept.{update_at}
use Rattle.rule_keep.proofs.Texts.{update_plain}
use Rattle.rule_keep.proofs.payload.payload_of.Goals as goal

pub returns-clause-text : goal.returns-clause-text
returns-clause-text c =
    let name = c.args.name.now in
    let remove = c.args.remove.now in
    let add = c.args.add.now in
    let value_is = c.in_ok-value.ensures in
    let plain = ap has_float value_is ∙ update_plain name remove add in
    c.in_ok-to_vec.ensures.text plain ∙ ap compact_text value_is

pub returns-clause-read : goal.returns-clause-read
returns-clause-read c =
    let name = c.args.name.now in
    let remove = c.args.remove.now in
    let add = c.args.add.now in
    let text_is = returns-clause-text c in
    let utf8 = subst IsUtf8 text_is c.in_ok-to_vec.ensures.utf8 in
    ap (update_at name) text_is
    ∙ c.written_updates_are_read.ensures name remove add c.requires.ids c.are_rules.ensures c.requires.differ c.requires.tabless utf8
