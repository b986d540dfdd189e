-- What the bytes of a line show of it: that it has no key `cmd`, or that no string of it is a word.
use Rattle.std.specs.Prelude.{◌≢◌, ℕ, ◌<◌, List, [], ◌∷◌, ◌++◌, codes, length, slice_index, Result, Ok, Err}
use Rattle.json.specs.Ascii as ascii
use Rattle.memchr.specs.Find.{OccursAt}
use Rattle.line_spec.specs.declared.line_fault.LineFault.{LineFault}
use Rattle.line_spec.specs.Line.{Command, blank, sync, request, explain, update, batch}

-- the needle stands nowhere in the bytes, and no backslash, which could spell it by an escape
pub record Lacks (needle bytes : List ℕ) : Type 0 where
  pub no_needle : (place : ℕ) → ¬ OccursAt bytes needle place
  pub no_escape : (place : ℕ) → place < length bytes → slice_index bytes place ≢ ascii.backslash

-- no key of the line is `cmd`
abbrev pub IsPlain : List ℕ → Type 0
IsPlain bytes = Lacks (codes "cmd") bytes

-- no string of the bytes is the word, which would stand between quotes
abbrev pub quoted : List ℕ → List ℕ
quoted word = ascii.quote ∷ (word ++ ascii.quote ∷ [])

abbrev pub HasNoString : List ℕ → List ℕ → Type 0
HasNoString word bytes = Lacks (quoted word) bytes

-- what was read asks for nothing or for a request, or it is at fault
abbrev pub IsRequestAtMost : Result Command LineFault → Type 0
IsRequestAtMost (Ok blank) = Unit {0}
IsRequestAtMost (Ok sync) = ⊥
IsRequestAtMost (Ok (request r)) = Unit {0}
IsRequestAtMost (Ok (explain r)) = ⊥
IsRequestAtMost (Ok (update u)) = ⊥
IsRequestAtMost (Ok (batch us)) = ⊥
IsRequestAtMost (Err fault) = Unit {0}
