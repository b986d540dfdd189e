use Rattle.std.proofs.Common.{rules, arith, ◌∙◌}
use Rattle.url_filter.specs.Sought.{IsSought}
use Rattle.url_filter.proofs.Skipped.{fails_here, not_both}
use Rattle.url_filter.proofs.sought.is_ruled_out.Goals as goal

pub returns-then-text-offset : goal.returns-then-text-offset
returns-then-text-offset c _ =
    let sought : IsSought c.args.pattern.now c.in-Some.offset = search rules in
    fails_here c.args.fold c.args.pattern.now c.args.text.now c.in-Some.offset sought (λ inside. absurd (omega arith))

pub returns-else-text-offset : goal.returns-else-text-offset
returns-else-text-offset c differs =
    let sought : IsSought c.args.pattern.now c.in-Some.offset = search rules in
    fails_here c.args.fold c.args.pattern.now c.args.text.now c.in-Some.offset sought (λ inside stands. not_both c.is_same.result differs (c.is_same.ensures ∙ stands))
