use Rattle.std.proofs.Common.{refl, ap, ◌∙◌}
use Rattle.rand_pcg.specs.Lcg.{Lcg}
use Rattle.session_spec.specs.declared.tally.Tally.{Tally}
use Rattle.session_spec.specs.Sample.{drawn_rules, generator_of, rounds_to}
use Rattle.session_sample.specs.Seen.{progress_of}
use Rattle.session_sample.proofs.summary.summary_of.Goals as goal

pub returns : goal.returns
returns c =
    let sample = c.args.sample.now in
    let first = c.in_ok-session.session in
    let state = first.generation.state in
    let drawn = drawn_rules sample.rules (generator_of sample.seed) in
    record {
      last = progress_of c.hold.new.session;
      ends = record {
        first = state;
        installed = c.in_ok-session.ensures.opened;
        same = c.in_ok-hold.ensures
            ∙ ap (λ (g : Lcg). rounds_to sample sample.updates (record { generator = g; state = state; tally = first.tally })) c.in_ok-session.ensures.generator
            ∙ ap (λ (t : Tally). rounds_to sample sample.updates (record { generator = drawn.1; state = state; tally = t })) c.in_ok-session.ensures.tally;
      };
      tally = refl;
      generation = c.number.ensures;
    }
