use Rattle.std.proofs.Common.{◌≡◌, ◌<◌, ◌+◌, ◌++◌, ◌∷◌, [], take, length, sym, ap, ◌∙◌, arith}
use Rattle.std.proofs.lemmas.Grind.{take_at_read}
use Rattle.rule_write.proofs.Inserted.{domain_added}
use Rattle.rule_write.proofs.sets.domains_in_order.Goals as goal

pub loop-domain-preserved : goal.loop-domain-preserved
loop-domain-preserved c =
    let i = c.loop-domain.domain-index in
    let all = c.args.domains.now in
    let within : i < length all = omega arith in
    let taken : take (i + 1) all ≡ take i all ++ c.domain-item.result ∷ [] = (take_at_read all i c.domain-item.result within).1 ∙ ap (λ r. take i all ++ r ∷ []) (sym c.domain-item.is) in
    domain_added c.loop-domain.set.keys c.insert.new.self.keys c.in_ok-from_str.field-0 (take i all) (take (i + 1) all) c.domain-item.result c.loop-domain.invariant
    c.in_ok-insert.ensures.keys (c.in_ok-from_str.ensures.ok ∙ c.as_str.ensures) taken
