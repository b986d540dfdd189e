use Rattle.text_commands.proofs.Sampled.{summed_up}
use Rattle.text_commands.proofs.sampling.summary_text.Goals as goal

pub returns : goal.returns
returns c = summed_up c.args.sample.now c.in_ok-summary.summary _ _ c.in_ok-summary.ensures c.new-text.ensures.bytes c.in_ok-write_summary.ensures.appended
