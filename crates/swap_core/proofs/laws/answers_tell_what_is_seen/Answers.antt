use Rattle.std.proofs.Common.{arith, add-one, sym, ◌∙◌}
use Rattle.swap_core.proofs.Schedules.{published_grows, seen_there, seen_published}
use Rattle.swap_core.proofs.laws.answers_tell_what_is_seen.Goals as goal

pub returns : goal.returns
returns c start events reader place number answers =
    let is = answers.newest in (
      rw (add-one place) (seen_there start events reader place answers.entered ∙ sym is),
      λ machine earlier le.
          let had = seen_published start events reader earlier machine in
          let grows = published_grows start events earlier place le in
          omega (arith, had, grows, is),
    )
