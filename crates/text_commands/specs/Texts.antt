-- What the commands write that write one text.
use Rattle.std.specs.Prelude.{◌≡◌, ◌⊎◌, ℕ, ◌<◌, ◌≤◌, List, ◌++◌, codes, length, Option}
use Rattle.dnr_base.specs.Faults.{Count}
use Rattle.dnr_spec.specs.declared.status.Status.{Status}
use Rattle.dnr_spec.specs.declared.status.Status.TheVariants as status
use Rattle.rule_spec.specs.Rule.{Rule}
use Rattle.hide_spec.specs.Hidden.{hiding_lines, max_hiding}
use Rattle.json_spec.specs.Written.{written as json_text}
use Rattle.prune_spec.specs.declared.prune_refusal.PruneRefusal.{PruneRefusal}
use Rattle.prune_spec.specs.declared.prune_refusal.PruneRefusal.TheVariants.{TooManyRules, NoMemory}
use Rattle.prune_spec.specs.Pruned.{max_rules}
use Rattle.session_load.specs.declared.lists.CompiledList.{CompiledList}
use Rattle.session_spec.specs.Hiding.{hidden_text}
use Rattle.session_spec.specs.Pruning.{pruned_text}
use Rattle.session_spec.specs.Refusals.{count_line, list_line, too_many_rules, unsupported_lines}
use Rattle.session_spec.specs.Sample.{IsSampled}
use Rattle.session_spec.specs.Words.{Sample}
use Rattle.text_commands.specs.Ends.{EndsText}

-- what `compile` prints of a list
abbrev pub text_of : CompiledList → List ℕ
text_of list =
    unsupported_lines list.report.lines ++ count_line (length list.rules.items) ++ json_text list.rules.items ++ codes "\n"

-- the summary of the sample's session was written as the end of a run, or memory ran out for it
abbrev pub EndsSample : Sample → Option (List ℕ) → Option (List ℕ) → Count → Status → Type 0
EndsSample sample before now sink ended =
    ((text : List ℕ) × IsSampled sample text × EndsText before now sink text status.Done ended)
    ⊎ ((ended ≡ status.NoMemory) × (now ≡ before))

-- what `hide` prints of the lines of a list, which has no more for hiding than it may
abbrev pub ShowsPage : List (List ℕ) → List ℕ → List ℕ → Type 0
ShowsPage lines host text = (length (hiding_lines lines) ≤ max_hiding) × (text ≡ hidden_text lines host)

-- the line that says that it has more
abbrev pub HidesTooMany : List ℕ → List (List ℕ) → List ℕ → Type 0
HidesTooMany name lines line =
    (max_hiding < length (hiding_lines lines)) × (line ≡ list_line name (too_many_rules (length (hiding_lines lines))))

-- what `prune` prints of rules, which are not too many
abbrev pub ShowsRest : List Rule → List ℕ → Type 0
ShowsRest rules text = (length rules ≤ max_rules) × (text ≡ pruned_text rules)

-- the line that says that they are
abbrev pub HoldsTooMany : List ℕ → List Rule → List ℕ → Type 0
HoldsTooMany name rules line = (max_rules < length rules) × (line ≡ list_line name (too_many_rules (length rules)))

-- the refusal of too many rules says how many they are
abbrev pub CountsTooMany : List Rule → PruneRefusal → Type 0
CountsTooMany rules (TooManyRules count) = (count ≡ length rules) × (max_rules < length rules)
CountsTooMany rules NoMemory = Unit {0}
