-- Where an automaton finds no end of a match, its pattern matches nowhere.
use Rattle.std.proofs.Common.{◌≡◌, ℕ, ◌<◌, ◌-◌, List, Bool, length, option_map, Option, None, Some, All, sym, ap, ◌∙◌, ⊎_elim, arith, refl}
use Rattle.std.proofs.lemmas.Option.{none-some}
use Rattle.dnr_spec.specs.Patterns.{options, places, ends_of}
use Rattle.regex.specs.Patterns.{Re, Match, Reads, find_str}
use Rattle.regex.proofs.ForCallers.{find_str_sound}
use Rattle.regex_compile.specs.Implements.{Implements}
use Rattle.regex_hir.specs.Find.{first_between}
use Rattle.regex_hir.specs.Meaning.{meaning}
use Rattle.regex_hir.specs.Re.{Trace, accept}
use Rattle.regex_hir.specs.declared.hir.Hir.{Hir}
use Rattle.regex_hir.proofs.AttemptLemmas.{attempt_complete}
use Rattle.regex_hir.proofs.FindLemmas.{IsFirst-of_first_between, none_of_first_between}
use Rattle.regex_hir.proofs.OptionLemmas.{option_cases, value_of_IsSome}
use Rattle.regex_host.specs.Automaton.{EndsNowhere, IsAutomatonOf}
use Rattle.regex_host.proofs.Patterns.{found_read}
use Rattle.regex_nfa.specs.Run.{run, find_in}
use Rattle.regex_nfa.specs.declared.nfa.Nfa.{Nfa}
use Rattle.regex_nfa.proofs.SearchLemmas.{run_unanchored}
use Rattle.regex_syntax.specs.Grammar.{Names}

none_before : {A B : Type 0} (f : A → B) (o : Option A) → option_map f o ≡ None → o ≡ None
none_before f None none = refl
none_before f (Some x) none = absurd (cc none)

-- no match starts anywhere
starts_nowhere : (nfa : Nfa) (text : List ℕ) → All (λ b. b < 256) text → EndsNowhere nfa text
    → first_between (run nfa text (length text) nfa.start) 0 (length text) ≡ None
unfolding find_in
starts_nowhere nfa text bytes none =
    none_before (λ (m : Match). m.trace) _
    (sym (run_unanchored nfa text (length text) 0 bytes (omega arith) (omega arith)) ∙ none_before (λ (t : Trace). t.end) _ none)

no_match : (nfa : Nfa) (re : Re) → Implements nfa re → (text : List ℕ) → All (λ b. b < 256) text → EndsNowhere nfa text → find_str re text 0 ≡ None
unfolding find_str
no_match nfa re implements text bytes none =
    ⊎_elim (λ nowhere. nowhere)
    (λ some. let at = find_str_sound re text 0 some.0 some.1 in
    let given = value_of_IsSome _ (attempt_complete text re accept some.0.start some.0.trace.end at.1 refl) in
    let first = IsFirst-of_first_between _ 0 (length text) some.0 some.1 in
    let nothing = none_of_first_between (run nfa text (length text) nfa.start) 0 (length text) (starts_nowhere nfa text bytes none) some.0.start (omega arith) first.to in
    absurd (none-some given.0 (sym nothing ∙ implements text some.0.start ∙ given.1)))
    (option_cases (find_str re text 0))

-- the automaton of the tree of a pattern is one of the pattern
pub automaton_of : (fold : Bool) (pattern : List ℕ) (hir : Hir) (names : Names) (nfa : Nfa)
    → Reads (options fold) pattern hir names → Implements nfa (meaning hir) → IsAutomatonOf nfa pattern fold
automaton_of fold pattern hir names nfa read implements = λ text bytes none.
    found_read fold pattern hir names text bytes read
    ∙ ap (option_map (λ m. places (length names - 1) (ends_of m))) (no_match nfa (meaning hir) implements text bytes none)
