use Rattle.std.proofs.Common.{◌≡◌, []}
use Rattle.session_spec.specs.Sample.{rounds_to}
use Rattle.session_sample.specs.Seen.{progress_of}
use Rattle.session_sample.proofs.summary.hold.Given as goal

abbrev pub invariant-loop-before : goal.invariant-loop-before
invariant-loop-before l = record {
  held : progress_of l.session ≡ rounds_to l.sample l.before (progress_of l.fn.session);
  suffixes : l.session.generation.suffixes ≡ [];
}
