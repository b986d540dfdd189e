use Rattle.std.proofs.Common.{subst, sym}
use Rattle.regex_host.specs.Automaton.{IsAutomatonOf}
use Rattle.regex_host.proofs.Automata.{automaton_of}
use Rattle.regex_host.proofs.automaton.Automaton.of.Goals as goal

pub returns : goal.returns
returns c =
    subst (λ nfa. IsAutomatonOf nfa c.args.pattern.now c.args.fold) (sym c.in-Ok-new.ensures.same)
    (automaton_of c.args.fold c.args.pattern.now c.in_ok-parsed.parsed.hir _ c.in-Ok-compile.nfa c.in_ok-parsed.ensures c.in-Ok-compile.ensures.matches)
