use Rattle.std.proofs.Common.{ap, ◌∙◌}
use Rattle.ruleset_store.specs.Seen.{update_seen}
use Rattle.update_spec.specs.Entries.{one}
use Rattle.published.specs.Shared.{Copy}
use Rattle.published.specs.Ahead.{next_of}
use Rattle.published.proofs.Coming.{one_kept}
use Rattle.published.proofs.writer.Writer.prepare.Goals as goal

pub invariant_of-self : goal.invariant_of-self
invariant_of-self g c =
    let is = c.in_ok-next.ensures.next ∙ ap (λ (copy : Copy). next_of copy (one (update_seen c.args.update.now))) c.published.ensures in
    (c.self.invariant.0, c.self.invariant.1, one_kept _ _ _ _ _ c.self.invariant.2 (ap (λ listed. listed.staged) c.self.view_is ∙ c.requires) is)
