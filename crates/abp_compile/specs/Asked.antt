-- Lines at which a host of patterns is asked, and what it is asked.
use Rattle.std.specs.Prelude.{◌≡◌, ◌≤◌, ℕ, List, [], ◌∷◌, ◌++◌, length, Bool, not, nat_le, if◌then◌else◌}
use Rattle.std.specs.List.{flat_map}
use Rattle.regex_host.specs.Asked.{Asked, AsksFor}
use Rattle.list_spec.specs.LineKind.{FilterLine, blank, comment, header, filter_line, unsupported, every_url, plain, regex, line_of}
use Rattle.list_spec.specs.LineKind as lines
use Rattle.list_spec.specs.Says.{max_regex}
use Rattle.abp_compile.specs.declared.report.CompileRefusal.{CompileRefusal}
use Rattle.abp_compile.specs.declared.report.CompileRefusal.TheVariants.{TooManyRules, HostFault, NoMemory}

-- the pattern is a regular expression, and not too long to be asked about
abbrev pub IsAsked : lines.FilterPattern → Type 0
IsAsked filter_pattern = (pattern : List ℕ) × (filter_pattern ≡ regex pattern) × (length pattern ≤ max_regex)

abbrev pub IsNotTooMany : CompileRefusal → Type 0
IsNotTooMany (TooManyRules count) = ⊥
IsNotTooMany (HostFault line) = Unit {0}
IsNotTooMany NoMemory = Unit {0}

-- the line of this number is stopped at, only where it is such a line
abbrev pub StopsOnlyAt : ℕ → lines.Line → CompileRefusal → Type 0
StopsOnlyAt number line (TooManyRules count) = ⊥
StopsOnlyAt number line (HostFault at) = (at ≡ number) × (filter : FilterLine) × (line ≡ filter_line filter) × IsAsked filter.pattern
StopsOnlyAt number line NoMemory = Unit {0}

-- what a host is asked about the pattern of a filter: whether a regular expression that is not too long is one, with
-- its case
abbrev pub asked_by : lines.FilterPattern → Bool → List Asked
asked_by every_url match_case = []
asked_by (plain pattern) match_case = []
asked_by (regex pattern) match_case = if nat_le (length pattern) max_regex then record { pattern = pattern; fold = not match_case } ∷ [] else []

abbrev pub asked_at : lines.Line → List Asked
asked_at blank = []
asked_at comment = []
asked_at header = []
asked_at (filter_line filter) = asked_by filter.pattern filter.match_case
asked_at (unsupported reason) = []

-- what it is asked about these lines, line by line
abbrev pub asked_about : List (List ℕ) → List Asked
asked_about lines = flat_map (λ line. asked_at (line_of line)) lines

-- a host comes from one state to the other by the first of these calls, however many, and by nothing else
pub record AsksFirst {S : Type 0} (asks : S → Asked → S → Type 0) (before : S) (list : List Asked) (now : S) : Type 0 where
  pub made : List Asked
  pub left : List Asked
  pub cut : list ≡ made ++ left
  pub asked : AsksFor asks before made now
