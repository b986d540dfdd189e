use Rattle.std.proofs.Common.{◌++◌, List, ℕ, map, drop, ◌+◌, sym, ap, ◌∙◌, append_assoc}
use Rattle.hide_spec.specs.HidingLine.{HidingLine}
use Rattle.hide_rules.specs.Index.{listed_at}
use Rattle.hide_rules.specs.Seen.{hiding_seen, lines_seen}
use Rattle.hide_rules.specs.Texts.{texts_of}
use Rattle.hide_rules.proofs.Named.{first_left}
use Rattle.hide_rules.proofs.candidates.candidates.Goals as goal

pub loop-domain-preserved : goal.loop-domain-preserved
loop-domain-preserved c =
    let lines : List HidingLine = map hiding_seen c.args.lines.now in
    let rest : List (List ℕ) = drop (c.loop-domain.domain-index + 1) (texts_of c.args.domains.now) in
    ap (λ (t : List HidingLine). t ++ listed_at lines c.args.index.now.listings rest) c.in_ok-push_listed.ensures
    ∙ append_assoc (lines_seen c.loop-domain.found.items) _ (listed_at lines c.args.index.now.listings rest)
    ∙ sym (ap (λ (d : List (List ℕ)). lines_seen c.loop-domain.found.items ++ listed_at lines c.args.index.now.listings d) (first_left c.args.domains.now c.loop-domain.domain-index _ c.loop-domain-test.true))
    ∙ c.loop-domain.invariant
