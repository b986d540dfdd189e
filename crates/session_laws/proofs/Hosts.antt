-- How many hosts a command needs.
use Rattle.std.proofs.Common.{◌≡◌, ℕ, ◌≤◌, List, [], ◌∷◌, filter_map, Option, Some, None, option_map, option_and_then, Bool, true, false, ◌&&◌, ◌==◌, nat_le, nat_lt, suc, take, drop, if◌then◌else◌, codes, refl, arith}
use Rattle.std.specs.List.{position_from}
use Rattle.std.specs.Str.{bytes_eq}
use Rattle.std.specs.Str.Parse.{digits_value}
use Rattle.std.proofs.lemmas.Bool.Decides.{nat_tests}
use Rattle.hide_spec.specs.Hidden.{is_page_host}
use Rattle.rule_spec.specs.declared.rule_kind.RuleKind.{RuleKind}
use Rattle.session_spec.specs.Out.{hosts_needed}
use Rattle.session_spec.specs.Words.{Installed, folder, list, Task, check_file, Choice, Choices, workers_of, suffixes_in, install, is_file_name, is_number, kind_named, match_of, follow_of, check_of, compile_of, hide_of, prune_of, Sample, make_sample, sample_of, list_at, is_extension_name, workers_named, choice_of, choices_of, with_choice, workers_chosen, suffixes_chosen, once, serving_with, serving_of}
use Rattle.session_laws.specs.Laws.{NineHostsAreEnough}

abbrev Few : Option Task → Type 0
Few task = hosts_needed task ≤ 9

either_few : (test : Bool) (first second : Option Task) → Few first → Few second → Few (if test then first else second)
either_few true first second few_first few_second = few_first
either_few false first second few_first few_second = few_second

few_of_rules : (words : List (List ℕ)) → Few (match_of words)
few_of_rules [] = omega arith
few_of_rules (rules ∷ []) = omega arith
few_of_rules (rules ∷ script ∷ []) = either_few (is_file_name rules && is_file_name script) _ _ (omega arith) (omega arith)
few_of_rules (rules ∷ script ∷ more ∷ words) = omega arith

few_of_followed : (words : List (List ℕ)) → Few (follow_of words)
few_of_followed [] = omega arith
few_of_followed (rules ∷ []) = omega arith
few_of_followed (rules ∷ script ∷ []) = either_few (is_file_name rules && is_file_name script) _ _ (omega arith) (omega arith)
few_of_followed (rules ∷ script ∷ more ∷ words) = omega arith

few_of_kind : (rules : List ℕ) (kind : Option RuleKind) → Few (option_map (λ kind. check_file kind rules) kind)
few_of_kind rules None = omega arith
few_of_kind rules (Some kind) = omega arith

few_of_check : (words : List (List ℕ)) → Few (check_of words)
few_of_check [] = omega arith
few_of_check (kind ∷ []) = omega arith
few_of_check (kind ∷ rules ∷ []) = either_few (is_file_name rules) _ _ (few_of_kind rules (kind_named kind)) (omega arith)
few_of_check (kind ∷ rules ∷ more ∷ words) = omega arith

few_of_list : (words : List (List ℕ)) → Few (compile_of words)
few_of_list [] = omega arith
few_of_list (file ∷ []) = either_few (is_file_name file) _ _ (omega arith) (omega arith)
few_of_list (file ∷ more ∷ words) = omega arith

few_of_page : (words : List (List ℕ)) → Few (hide_of words)
few_of_page [] = omega arith
few_of_page (file ∷ []) = omega arith
few_of_page (file ∷ host ∷ []) = either_few (is_file_name file && is_page_host host) _ _ (omega arith) (omega arith)
few_of_page (file ∷ host ∷ more ∷ words) = omega arith

few_of_pruning : (words : List (List ℕ)) → Few (prune_of words)
few_of_pruning [] = omega arith
few_of_pruning (file ∷ []) = either_few (is_file_name file) _ _ (omega arith) (omega arith)
few_of_pruning (file ∷ more ∷ words) = omega arith

few_of_sample : (sample : Option Sample) → Few (option_map make_sample sample)
few_of_sample None = omega arith
few_of_sample (Some sample) = omega arith

-- ---- sessions

abbrev IsFew : Choice → Type 0
IsFew (workers_of count) = count ≤ 8
IsFew (suffixes_in file) = Unit {0}
IsFew (install one) = Unit {0}

abbrev IsFewIf : Option Choice → Type 0
IsFewIf None = Unit {0}
IsFewIf (Some choice) = IsFew choice

abbrev AreFew : List Choice → Type 0
AreFew [] = Unit {0}
AreFew (choice ∷ choices) = IsFew choice × AreFew choices

abbrev AreFewIf : Option Choices → Type 0
AreFewIf None = Unit {0}
AreFewIf (Some c) = AreFew c.choices

few_if : (test : Bool) (first second : Option Choice) → IsFewIf first → IsFewIf second → IsFewIf (if test then first else second)
few_if true first second few_first few_second = few_first
few_if false first second few_first few_second = few_second

few_counted : (count : ℕ) (known small : Bool) → (small ≡ true → count ≤ 8)
    → IsFewIf (option_and_then (λ count. if nat_lt 0 count then Some (workers_of count) else None) (if known && small then Some count else None))
few_counted count false small few = tt
few_counted count true false few = tt
few_counted count true true few = few_if (nat_lt 0 count) _ _ (few refl) tt

few_named : (word : List ℕ) → IsFewIf (workers_named word)
few_named word = few_counted (digits_value 10 word) (is_number word) (nat_le (digits_value 10 word) 8) (λ small. grind (arith, nat_tests, small))

few_install : (test : Bool) (one : Installed) → IsFewIf (if test then Some (install one) else None)
few_install true one = tt
few_install false one = tt

few_suffixes : (test : Bool) (file : List ℕ) → IsFewIf (if test then Some (suffixes_in file) else None)
few_suffixes true file = tt
few_suffixes false file = tt

few_listed : (word : List ℕ) (at : Option ℕ) → IsFewIf (list_at word at)
few_listed word None = tt
few_listed word (Some place) =
    few_install (is_extension_name (take place word) && is_file_name (drop (suc place) word)) (list (take place word) (drop (suc place) word))

few_chosen : (option value : List ℕ) → IsFewIf (choice_of option value)
few_chosen option value =
    few_if (bytes_eq option (codes "--workers")) _ _ (few_named value)
    (few_if (bytes_eq option (codes "--psl")) _ _ (few_suffixes (is_file_name value) value)
    (few_if (bytes_eq option (codes "--ext")) _ _ (few_install (is_extension_name value) (folder value))
    (few_if (bytes_eq option (codes "--list")) _ _ (few_listed value (position_from (λ b. b == 61) 0 value)) tt)))

few_with : (choice : Choice) (rest : Option Choices) → IsFew choice → AreFewIf rest → AreFewIf (option_map (with_choice choice) rest)
few_with choice None few others = tt
few_with choice (Some rest) few others = (few, others)

few_then : (choice : Option Choice) (rest : Option Choices) → IsFewIf choice → AreFewIf rest
    → AreFewIf (option_and_then (λ choice. option_map (with_choice choice) rest) choice)
few_then None rest few others = tt
few_then (Some choice) rest few others = few_with choice rest few others

few_script : (script : List ℕ) (test : Bool) → AreFewIf (if test then Some (record { choices = []; script = script }) else None)
few_script script true = tt
few_script script false = tt

few_choices : (words : List (List ℕ)) → AreFewIf (choices_of words)
few_choices [] = tt
few_choices (script ∷ []) = few_script script (is_file_name script)
few_choices (option ∷ value ∷ words) = few_then (choice_of option value) (choices_of words) (few_chosen option value) (few_choices words)

abbrev Small : Option (Option ℕ) → Type 0
Small None = Unit {0}
Small (Some None) = Unit {0}
Small (Some (Some count)) = count ≤ 8

-- whatever is chosen of the other kinds, the numbers are small
abbrev AllSmall : List ℕ → Type 0
AllSmall [] = Unit {0}
AllSmall (count ∷ counts) = (count ≤ 8) × AllSmall counts

all_small : (choices : List Choice) → AreFew choices → AllSmall (filter_map workers_chosen choices)
all_small [] few = tt
all_small (workers_of count ∷ choices) few = (few.0, all_small choices few.1)
all_small (suffixes_in file ∷ choices) few = all_small choices few.1
all_small (install one ∷ choices) few = all_small choices few.1

small_once : (counts : List ℕ) → AllSmall counts → Small (once counts)
small_once [] small = tt
small_once (count ∷ []) small = small.0
small_once (count ∷ other ∷ counts) small = tt

few_serving : (c : Choices) (workers : Option (Option ℕ)) (suffixes : Option (Option (List ℕ))) → Small workers
    → Few (option_and_then (λ workers. option_map (serving_with c workers) suffixes) workers)
few_serving c None suffixes small = omega arith
few_serving c (Some None) None small = omega arith
few_serving c (Some None) (Some file) small = omega arith
few_serving c (Some (Some count)) None small = omega arith
few_serving c (Some (Some count)) (Some file) small = omega (arith, small)

few_served : (choices : Option Choices) → AreFewIf choices → Few (option_and_then serving_of choices)
few_served None few = omega arith
few_served (Some c) few =
    few_serving c (once (filter_map workers_chosen c.choices)) (once (filter_map suffixes_chosen c.choices))
    (small_once (filter_map workers_chosen c.choices) (all_small c.choices few))

-- ---- all commands

pub nine_are_enough : NineHostsAreEnough
nine_are_enough [] = omega arith
nine_are_enough (command ∷ words) =
    either_few (bytes_eq command (codes "match")) _ _ (few_of_rules words)
    (either_few (bytes_eq command (codes "check")) _ _ (few_of_check words)
    (either_few (bytes_eq command (codes "compile")) _ _ (few_of_list words)
    (either_few (bytes_eq command (codes "serve")) _ _ (few_served (choices_of words) (few_choices words))
    (either_few (bytes_eq command (codes "sample")) _ _ (few_of_sample (sample_of words))
    (either_few (bytes_eq command (codes "hide")) _ _ (few_of_page words)
    (either_few (bytes_eq command (codes "prune")) _ _ (few_of_pruning words)
    (either_few (bytes_eq command (codes "follow")) _ _ (few_of_followed words) (omega arith))))))))
