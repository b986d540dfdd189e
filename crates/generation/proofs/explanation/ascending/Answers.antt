use Rattle.std.proofs.Common.{◌∙◌, ap, filter}
use Rattle.std.specs.List.Sorted.{ties}
use Rattle.generation.proofs.Ordered.{below, lines_in_order}
use Rattle.generation.proofs.explanation.ascending.Goals as goal

pub returns : goal.returns
returns c =
    lines_in_order c.args.lines.now c.sort.new.self.items c.in_ok-sort.ensures.sorted
    (λ z. c.sort.ensures.stable z ∙ ap (filter (ties below z)) c.in_ok-sorted.ensures.items)
