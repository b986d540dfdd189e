-- How `sample` ends, for a shelf that may tell what its files hold.
use Rattle.std.proofs.Common.{◌≡◌, ℕ, List, [], ◌++◌, Option, Some, None, inl, inr, ap, ◌∙◌}
use Rattle.dnr_spec.specs.declared.status.Status.{Status}
use Rattle.load_spec.specs.Files.{Files}
use Rattle.session_sample.specs.declared.summary.Summary.{Summary}
use Rattle.session_sample.specs.Seen.{IsSummary}
use Rattle.session_spec.specs.declared.tally.Tally.{Tally}
use Rattle.session_spec.specs.Out.{Outside, conduct_of}
use Rattle.session_spec.specs.Sample.{IsSampled, summary_line}
use Rattle.session_spec.specs.Words.{Sample, make_sample}
use Rattle.text_commands.specs.Ends.{MayEnd}
use Rattle.text_commands.specs.Texts.{EndsSample}
use Rattle.text_commands.proofs.Ended.{text_ends, memory_ends}

known_ends : (files : Files) (o : Outside) (sample : Sample) (before now : Option (List ℕ)) (ended : Status)
    → EndsSample sample before now o.sink ended → MayEnd (Some files) (make_sample sample) o before now ended
known_ends files o sample before now ended (inl (text, sampled, ends)) =
    text_ends o (conduct_of files o (make_sample sample)) before now text ended sampled (inl sampled) (inl ends)
known_ends files o sample before now ended (inr (is, same)) = memory_ends o (conduct_of files o (make_sample sample)) before now ended is same

pub sample_ends : (known : Option Files) (o : Outside) (sample : Sample) (before now : Option (List ℕ)) (ended : Status)
    → EndsSample sample before now o.sink ended → MayEnd known (make_sample sample) o before now ended
sample_ends None o sample before now ended ends = tt
sample_ends (Some files) o sample before now ended ends = known_ends files o sample before now ended ends

-- the text is the summary of the session that was held
pub summed_up : (sample : Sample) (summary : Summary) (before written : List ℕ) → IsSummary sample summary → before ≡ [] → written ≡ before ++ summary_line summary.tally summary.generation
    → IsSampled sample written
summed_up sample summary before written is empty appended = record {
  last = is.last;
  ends = is.ends;
  output = appended ∙ ap (λ (b : List ℕ). b ++ summary_line summary.tally summary.generation) empty
      ∙ ap (λ (t : Tally). summary_line t summary.generation) is.tally ∙ ap (λ (n : ℕ). summary_line is.last.tally n) is.generation;
}
