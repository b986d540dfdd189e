use Rattle.std.proofs.Common.{◌+◌, List, ℕ, Some, sym, ap, ◌∙◌, subst}
use Rattle.serde_json.specs.Find.{as_str}
use Rattle.json_spec.proofs.Each.{IsReadSoFar, read_goes}
use Rattle.access_read.proofs.patterns.each_pattern.Goals as goal

pub loop-value-preserved : goal.loop-value-preserved
loop-value-preserved c =
    let l = c.loop-value in
    subst (λ (ps : List (List ℕ)). IsReadSoFar as_str c.args.values.now ps (l.value-index + 1)) (sym c.in_ok-push.ensures.items)
    (read_goes as_str c.args.values.now l.value-index c.value-item.result l.patterns.items c.in_ok-pattern.pattern c.loop-value-test.true c.value-item.is l.invariant
    (sym c.in-Some.ensures ∙ ap (λ (text : List ℕ). Some text) (sym c.in_ok-pattern.ensures)))
