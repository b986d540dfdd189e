-- The examples of samples are computed.
use Rattle.std.specs.Prelude.{refl, [], ◌∷◌}
use Rattle.url.proofs.OnLiterals.{url_on_literals}
use Rattle.rule_spec.specs.Scan.{scan}
use Rattle.update_spec.specs.Judge.{judge_update}
use Rattle.update_spec.specs.Update.{installed}
use Rattle.session_spec.specs.Sample.{draw, drawn_rule, drawn_url, asked, updated, extension_of, end_from, generator_of}
use Rattle.session_spec.specs.SampleExamples.{WordsAreThoseOfPcg, RequestsAreDealtOut, SampleTakesFourNumbers, SamplesAreSummedUp}

pub words_are_those_of_pcg : WordsAreThoseOfPcg
unfolding draw
words_are_those_of_pcg = (refl, refl, refl)

pub requests_are_dealt_out : RequestsAreDealtOut
requests_are_dealt_out = (refl, refl, refl, refl)

pub sample_takes_four_numbers : SampleTakesFourNumbers
sample_takes_four_numbers = (refl, refl)

pub samples_are_summed_up : SamplesAreSummedUp
unfolding draw drawn_rule drawn_url asked updated url_on_literals scan judge_update
samples_are_summed_up = (
  record {
    last = end_from (record { seed = 7; rules = 0; requests = 5; updates = 0 }) (record { extensions = installed (extension_of []) ∷ []; count = 0 }) (generator_of 7);
    ends = record { first = record { extensions = installed (extension_of []) ∷ []; count = 0 }; installed = refl; same = refl };
    output = refl;
  },
  record {
    last = end_from (record { seed = 7; rules = 0; requests = 0; updates = 2 }) (record { extensions = installed (extension_of []) ∷ []; count = 0 }) (generator_of 7);
    ends = record { first = record { extensions = installed (extension_of []) ∷ []; count = 0 }; installed = refl; same = refl };
    output = refl;
  },
)
