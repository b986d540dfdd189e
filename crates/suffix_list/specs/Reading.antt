-- What is read of a list, with want of memory as a free answer.
use Rattle.std.specs.Prelude.{◌≡◌, ◌==◌, ℕ, List, map, Bool, true, false, Option, Some, None, Result, Ok, Err, vec_items}
use Rattle.std.specs.List.{slice_split}
use Rattle.std.specs.declared.vec.Vec.{Vec}
use Rattle.dnr_spec.specs.Suffixes.{SuffixRule, is_rule, word_of, read_rule, rules_of, within_limit, read_suffixes}
use Rattle.dnr_spec.specs.declared.suffix_refusal.SuffixRefusal.{SuffixRefusal}
use Rattle.dnr_spec.specs.declared.suffix_refusal.SuffixRefusal.TheVariants.{BadRule, NoMemory}
use Rattle.suffix_list.specs.declared.rule.Rule.{Rule}
use Rattle.suffix_list.specs.Kept.{seen}

-- the answer, unless it is want of memory
abbrev pub IsRefusedAs : {T : Type 0} → Result T SuffixRefusal → SuffixRefusal → Type 0
IsRefusedAs answer NoMemory = Unit {0}
IsRefusedAs answer refusal = answer ≡ Err refusal

-- what a line gives: nothing, a rule, or the refusal of its number
abbrev pub line_rule : ℕ → Option SuffixRule → Result (Option SuffixRule) SuffixRefusal
line_rule number None = Err (BadRule number)
line_rule number (Some rule) = Ok (Some rule)

abbrev pub line_answer : ℕ → Option SuffixRule → Bool → Result (Option SuffixRule) SuffixRefusal
line_answer number rule true = line_rule number rule
line_answer number rule false = Ok None

unfoldable pub read_line : ℕ → List ℕ → Result (Option SuffixRule) SuffixRefusal
read_line number line = line_answer number (read_rule (word_of line)) (is_rule (word_of line))

abbrev pub IsReadLine : List ℕ → ℕ → Result (Option Rule) SuffixRefusal → Type 0
IsReadLine line number (Ok None) = read_line number line ≡ Ok None
IsReadLine line number (Ok (Some rule)) = read_line number line ≡ Ok (Some (seen rule))
IsReadLine line number (Err refusal) = IsRefusedAs (read_line number line) refusal

unfoldable pub read_text : List ℕ → Result (List SuffixRule) SuffixRefusal
read_text text = within_limit (rules_of 1 (slice_split (λ b. b == 10) text))

abbrev pub IsReadText : {A : Type 0} → List ℕ → Result (Vec Rule A) SuffixRefusal → Type 0
IsReadText text (Ok rules) = read_text text ≡ Ok (map seen (vec_items rules))
IsReadText text (Err refusal) = IsRefusedAs (read_text text) refusal

-- why bytes are no list
abbrev pub IsRefused : List ℕ → SuffixRefusal → Type 0
IsRefused bytes refusal = IsRefusedAs (read_suffixes bytes) refusal
