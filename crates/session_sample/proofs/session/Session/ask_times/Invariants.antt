use Rattle.std.proofs.Common.{◌≡◌, []}
use Rattle.session_spec.specs.Sample.{asked_times}
use Rattle.session_sample.specs.Seen.{progress_of}
use Rattle.session_sample.proofs.session.Session.ask_times.Given as goal

abbrev pub invariant-loop : goal.invariant-loop
invariant-loop l = record {
  asked : progress_of l.self ≡ asked_times l.counter (progress_of l.fn.self);
  suffixes : l.self.generation.suffixes ≡ [];
}
