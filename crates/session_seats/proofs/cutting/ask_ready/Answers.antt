use Rattle.std.proofs.Common.{◌∙◌, ap, arith, length, vec_len}
use Rattle.session_seats.proofs.Cuts.{written_back}
use Rattle.session_seats.proofs.cutting.ask_ready.Goals as goal

pub returns : goal.returns
returns c =
    written_back c.args.cut.now.items c.ask_run.new.lines (vec_len c.args.cut.now) (c.ask_run.ensures ∙ c.deref_mut.ensures.value) (omega (arith, ap length c.deref_mut.ensures.value, c.deref_mut.ensures.len))
