-- What a clause sees of a session on its way, and of its summary.
use Rattle.std.specs.Prelude.{◌≡◌}
use Rattle.session_spec.specs.Sample.{Progress, EndsAt}
use Rattle.session_spec.specs.Words.{Sample}
use Rattle.session_sample.specs.declared.session.Session.{Session}
use Rattle.session_sample.specs.declared.summary.Summary.{Summary}

abbrev pub progress_of : Session → Progress
progress_of session = record { generator = session.generator; state = session.generation.state; tally = session.tally }

-- the session came to an end, and this sums it up
pub record IsSummary (sample : Sample) (summary : Summary) : Type 0 where
  pub last : Progress
  pub ends : EndsAt sample last
  pub tally : summary.tally ≡ last.tally
  pub generation : summary.generation ≡ last.state.count
