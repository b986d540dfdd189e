-- The command that the words after the program's name say.
use Rattle.std.specs.Prelude.{ℕ, suc, ◌-◌, ◌^◌, List, [], ◌∷◌, length, take, drop, slice_index, codes, filter_map, Bool, not, ◌==◌, ◌&&◌, ◌||◌, nat_lt, nat_le, Option, Some, None, option_map, option_and_then, unwrap_or, if◌then◌else◌}
use Rattle.std.specs.List.{list_all, position_from}
use Rattle.std.specs.Str.{bytes_eq}
use Rattle.std.specs.Str.Parse.{digits_value}
use Rattle.dnr_spec.specs.UrlFilter.{is_digit}
use Rattle.hide_spec.specs.Hidden.{is_page_host}
use Rattle.rule_spec.specs.declared.rule_kind.RuleKind.{RuleKind}
use Rattle.rule_spec.specs.declared.rule_kind.RuleKind.TheVariants.{Static, Dynamic, Session}

-- what is installed before the script: an extension of a folder, or a filter list as the extension of this name
pub data Installed : Type 0 where
  folder : List ℕ → Installed
  list : List ℕ → List ℕ → Installed

-- a session: how many answer requests, its suffix list if any, what is installed in order, and its script
pub record Serving : Type 0 where
  pub workers : ℕ
  pub suffixes : Option (List ℕ)
  pub installed : List Installed
  pub script : List ℕ

-- a session that is made from a number: the seed, and how many rules, requests and updates it has
pub record Sample : Type 0 where
  pub seed : ℕ
  pub rules : ℕ
  pub requests : ℕ
  pub updates : ℕ

-- `match RULES REQUESTS`, `follow RULES REQUESTS`, `check KIND RULES`, `compile LIST`,
-- `serve [--workers N] [--psl F] [--ext NAME].. [--list NAME=F].. SCRIPT`, `sample SEED RULES REQUESTS UPDATES`,
-- `hide LIST HOST`, and `prune RULES`
pub data Task : Type 0 where
  match_files : List ℕ → List ℕ → Task
  follow_files : List ℕ → List ℕ → Task
  check_file : RuleKind → List ℕ → Task
  compile_file : List ℕ → Task
  serve_script : Serving → Task
  make_sample : Sample → Task
  hide_page : List ℕ → List ℕ → Task
  prune_file : List ℕ → Task

-- ---- names

-- a name of a file is not empty and does not begin with `-`
abbrev pub is_file_name : List ℕ → Bool
is_file_name word = nat_lt 0 (length word) && not (slice_index word 0 == 45)

-- `a-z`, `0-9`, `-` and `_`
abbrev pub is_name_byte : ℕ → Bool
is_name_byte b = (nat_le 97 b && nat_le b 122) || (nat_le 48 b && nat_le b 57) || b == 45 || b == 95

-- a name of an extension has 1 to 64 of them
abbrev pub is_extension_name : List ℕ → Bool
is_extension_name word = nat_lt 0 (length word) && nat_le (length word) 64 && list_all is_name_byte word

-- ---- numbers

-- decimal digits without a leading zero, other than `0` itself
abbrev pub is_number : List ℕ → Bool
is_number word = nat_lt 0 (length word) && list_all is_digit word && (length word == 1 || not (slice_index word 0 == 48))

-- the number that a word writes, up to this one
abbrev pub number_up_to : ℕ → List ℕ → Option ℕ
number_up_to most word = if is_number word && nat_le (digits_value 10 word) most then Some (digits_value 10 word) else None

-- ---- `match`, `follow`, `check` and `compile`

abbrev pub kind_named : List ℕ → Option RuleKind
kind_named word =
    if bytes_eq word (codes "static") then Some Static
    else (if bytes_eq word (codes "dynamic") then Some Dynamic
    else (if bytes_eq word (codes "session") then Some Session else None))

abbrev pub match_of : List (List ℕ) → Option Task
match_of (rules ∷ script ∷ []) = if is_file_name rules && is_file_name script then Some (match_files rules script) else None
match_of _ = None

abbrev pub follow_of : List (List ℕ) → Option Task
follow_of (rules ∷ script ∷ []) = if is_file_name rules && is_file_name script then Some (follow_files rules script) else None
follow_of _ = None

abbrev pub check_of : List (List ℕ) → Option Task
check_of (kind ∷ rules ∷ []) = if is_file_name rules then option_map (λ kind. check_file kind rules) (kind_named kind) else None
check_of _ = None

abbrev pub compile_of : List (List ℕ) → Option Task
compile_of (file ∷ []) = if is_file_name file then Some (compile_file file) else None
compile_of _ = None

-- ---- `serve`

-- what an option chooses
pub data Choice : Type 0 where
  workers_of : ℕ → Choice
  suffixes_in : List ℕ → Choice
  install : Installed → Choice

-- `NAME=F`, where NAME ends before the first `=`
abbrev pub list_at : List ℕ → Option ℕ → Option Choice
list_at word None = None
list_at word (Some place) =
    if is_extension_name (take place word) && is_file_name (drop (suc place) word) then Some (install (list (take place word) (drop (suc place) word)))
    else None

abbrev pub list_named : List ℕ → Option Choice
list_named word = list_at word (position_from (λ b. b == 61) 0 word)

-- one to eight answer requests
abbrev pub max_workers : ℕ
max_workers = 8

abbrev pub workers_named : List ℕ → Option Choice
workers_named word = option_and_then (λ count. if nat_lt 0 count then Some (workers_of count) else None) (number_up_to max_workers word)

-- an option and its value
abbrev pub choice_of : List ℕ → List ℕ → Option Choice
choice_of option value =
    if bytes_eq option (codes "--workers") then workers_named value
    else (if bytes_eq option (codes "--psl") then (if is_file_name value then Some (suffixes_in value) else None)
    else (if bytes_eq option (codes "--ext") then (if is_extension_name value then Some (install (folder value)) else None)
    else (if bytes_eq option (codes "--list") then list_named value else None)))

-- options and their values, before the name of the script
pub record Choices : Type 0 where
  pub choices : List Choice
  pub script : List ℕ

abbrev pub with_choice : Choice → Choices → Choices
with_choice choice rest = record rest { choices = choice ∷ rest.choices }

abbrev pub choices_of : List (List ℕ) → Option Choices
choices_of [] = None
choices_of (script ∷ []) = if is_file_name script then Some (record { choices = []; script = script }) else None
choices_of (option ∷ value ∷ words) =
    option_and_then (λ choice. option_map (with_choice choice) (choices_of words)) (choice_of option value)

abbrev pub workers_chosen : Choice → Option ℕ
workers_chosen (workers_of count) = Some count
workers_chosen (suffixes_in file) = None
workers_chosen (install one) = None

abbrev pub suffixes_chosen : Choice → Option (List ℕ)
suffixes_chosen (workers_of count) = None
suffixes_chosen (suffixes_in file) = Some file
suffixes_chosen (install one) = None

abbrev pub installs : Choice → Option Installed
installs (workers_of count) = None
installs (suffixes_in file) = None
installs (install one) = Some one

-- what is chosen once or not at all
abbrev pub once : {X : Type 0} → List X → Option (Option X)
once [] = Some None
once (x ∷ []) = Some (Some x)
once (x ∷ y ∷ xs) = None

-- one answers requests where no number is named
abbrev pub serving_with : Choices → Option ℕ → Option (List ℕ) → Task
serving_with c workers suffixes =
    serve_script (record {
      workers = unwrap_or workers 1;
      suffixes = suffixes;
      installed = filter_map installs c.choices;
      script = c.script;
    })

-- the number of workers and the suffix list are named at most once
abbrev pub serving_of : Choices → Option Task
serving_of c =
    option_and_then (λ workers. option_map (serving_with c workers) (once (filter_map suffixes_chosen c.choices)))
    (once (filter_map workers_chosen c.choices))

abbrev pub serve_of : List (List ℕ) → Option Task
serve_of words = option_and_then serving_of (choices_of words)

-- ---- `sample`

-- each number up to its limit
abbrev pub sample_of : List (List ℕ) → Option Sample
sample_of (seed ∷ rules ∷ requests ∷ updates ∷ []) =
    option_and_then (λ seed. option_and_then (λ rules. option_and_then (λ requests.
    option_map (λ updates. record { seed = seed; rules = rules; requests = requests; updates = updates })
    (number_up_to 1000 updates)) (number_up_to 100000 requests)) (number_up_to 30000 rules)) (number_up_to (2 ^ 64 - 1) seed)
sample_of _ = None

abbrev pub make_sample_of : List (List ℕ) → Option Task
make_sample_of words = option_map make_sample (sample_of words)

-- ---- `hide` and `prune`

abbrev pub hide_of : List (List ℕ) → Option Task
hide_of (file ∷ host ∷ []) = if is_file_name file && is_page_host host then Some (hide_page file host) else None
hide_of _ = None

abbrev pub prune_of : List (List ℕ) → Option Task
prune_of (rules ∷ []) = if is_file_name rules then Some (prune_file rules) else None
prune_of _ = None

-- ---- commands

abbrev pub command_of : List ℕ → List (List ℕ) → Option Task
command_of command words =
    if bytes_eq command (codes "match") then match_of words
    else (if bytes_eq command (codes "check") then check_of words
    else (if bytes_eq command (codes "compile") then compile_of words
    else (if bytes_eq command (codes "serve") then serve_of words
    else (if bytes_eq command (codes "sample") then make_sample_of words
    else (if bytes_eq command (codes "hide") then hide_of words
    else (if bytes_eq command (codes "prune") then prune_of words
    else (if bytes_eq command (codes "follow") then follow_of words else None)))))))

abbrev pub task_of : List (List ℕ) → Option Task
task_of [] = None
task_of (command ∷ words) = command_of command words
