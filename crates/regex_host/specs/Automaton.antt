-- What an automaton tells of a pattern.
use Rattle.std.specs.Prelude.{◌≡◌, ℕ, ◌<◌, List, length, All, Bool, None}
use Rattle.dnr_spec.specs.Patterns.{found}
use Rattle.regex_dfa.specs.Search.{end_from}
use Rattle.regex_nfa.specs.declared.nfa.Nfa.{Nfa}

-- no match ends in the text, wherever it starts
abbrev pub EndsNowhere : Nfa → List ℕ → Type 0
EndsNowhere nfa text = end_from nfa text (length text) nfa.unanchored 0 ≡ None

-- where no match ends in a text, the pattern matches nowhere in it
abbrev pub IsAutomatonOf : Nfa → List ℕ → Bool → Type 0
IsAutomatonOf nfa pattern fold = (text : List ℕ) → All (λ b. b < 256) text → EndsNowhere nfa text → found pattern fold text ≡ None
