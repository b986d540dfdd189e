use Rattle.std.proofs.Common.{max, ap, ◌∙◌, arith}
use Rattle.dnr_spec.specs.Hosts.{labels_of}
use Rattle.dnr_spec.specs.Suffixes.{suffix_len}
use Rattle.suffix_list.specs.Kept.{other_exception_len, other_rule_len}
use Rattle.suffix_list.proofs.Lengths.{suffix_some, suffix_none}
use Rattle.suffix_list.proofs.list.SuffixList.suffix_len.Goals as goal

pub returns-then-exception-gt0 : goal.returns-then-exception-gt0
returns-then-exception-gt0 c =
    suffix_some c.self.inside.rules.items (labels_of c.args.name.now) c.longest_others-exception.result.0
    (c.longest_others-exception.ensures.exceptions ∙ ap (λ rs. other_exception_len (labels_of c.args.name.now) rs) c.as_slice.ensures.value)
    c.if-exception-gt0.true
    ∙ ap (λ rs. suffix_len rs (labels_of c.args.name.now)) c.self.view_is

pub returns : goal.returns
returns c =
    c.max-2.ensures ∙ ap (λ n. max n 1) c.max.ensures
    ∙ suffix_none c.self.inside.rules.items (labels_of c.args.name.now) c.longest_others-exception.result.0 c.longest_others-exception.result.1 c.longest_listed-listed.result
    (c.longest_others-exception.ensures.exceptions ∙ ap (λ rs. other_exception_len (labels_of c.args.name.now) rs) c.as_slice.ensures.value)
    (omega arith)
    (c.longest_others-exception.ensures.rules ∙ ap (λ rs. other_rule_len (labels_of c.args.name.now) rs) c.as_slice.ensures.value)
    (c.longest_listed-listed.ensures c.self.inside.rules.items c.self.invariant)
    ∙ ap (λ rs. suffix_len rs (labels_of c.args.name.now)) c.self.view_is
