use Rattle.std.proofs.Common.{◌≡◌}
use Rattle.session_spec.specs.Sample.{drawn_rules}
use Rattle.session_sample.proofs.draws.draw_rules.Given as goal

abbrev pub invariant-loop-drawn : goal.invariant-loop-drawn
invariant-loop-drawn l = record {
  rules : l.rules.items ≡ (drawn_rules l.drawn l.fn.generator).0;
  next : l.generator ≡ (drawn_rules l.drawn l.fn.generator).1;
}
