-- Examples of samples, each computed from the definitions alone.
use Rattle.std.specs.Prelude.{◌≡◌, ℕ, ◌^◌, [], ◌∷◌, codes, Some, None}
use Rattle.rand_pcg.specs.Lcg.{Lcg}
use Rattle.session_spec.specs.Sample.{generator_of, draw, asked_in, IsSampled}
use Rattle.session_spec.specs.Words.{make_sample, task_of}

-- a word of 32 bits
abbrev pub word : Lcg → ℕ × Lcg
word generator = draw (2 ^ 32) generator

-- The first words of PCG's reference program `pcg32-demo`, which begins with 42 on the stream 54.
abbrev pub WordsAreThoseOfPcg : Type 0
WordsAreThoseOfPcg =
    let first = word (generator_of 42) in
    let second = word first.1 in
    let third = word second.1 in
    (first.0 ≡ 0xa15c02b7) × (second.0 ≡ 0x7b47f409) × (third.0 ≡ 0xba1d3330)

abbrev pub five_in_round : ℕ → ℕ
five_in_round round = asked_in (record { seed = 0; rules = 0; requests = 5; updates = 3 }) round

-- Five requests in rounds that three updates part: two in the first, and one in each other.
abbrev pub RequestsAreDealtOut : Type 0
RequestsAreDealtOut =
    (five_in_round 0 ≡ 2) × (five_in_round 1 ≡ 1) × (five_in_round 2 ≡ 1) × (five_in_round 3 ≡ 1)

-- `sample` takes its four numbers.
abbrev pub SampleTakesFourNumbers : Type 0
SampleTakesFourNumbers =
    (task_of (codes "sample" ∷ codes "7" ∷ codes "50" ∷ codes "400" ∷ codes "3" ∷ [])
    ≡ Some (make_sample (record { seed = 7; rules = 50; requests = 400; updates = 3 })))
    × (task_of (codes "sample" ∷ codes "7" ∷ codes "50" ∷ codes "400" ∷ []) ≡ None)

-- Without rules no request is decided, and updates alone leave their count.
abbrev pub SamplesAreSummedUp : Type 0
SamplesAreSummedUp =
    IsSampled (record { seed = 7; rules = 0; requests = 5; updates = 0 })
    (codes "{\"requests\":5,\"none\":5,\"block\":0,\"allow\":0,\"redirect\":0,\"upgrade\":0,\"generation\":0}\n")
    × IsSampled (record { seed = 7; rules = 0; requests = 0; updates = 2 })
    (codes "{\"requests\":0,\"none\":0,\"block\":0,\"allow\":0,\"redirect\":0,\"upgrade\":0,\"generation\":2}\n")
