-- What the options of `serve` ask for, gone over one after another.
use Rattle.std.proofs.Common.{◌≡◌, ℕ, List, [], ◌∷◌, ◌++◌, filter_map, Option, Some, None, option_map, option_and_then, unwrap_or, Bool, true, false, cond, refl, sym, ap, ◌∙◌}
use Rattle.std.specs.Option.{option_to_list}
use Rattle.session_spec.specs.Words.{Task, Installed, Choice, Choices, workers_of, suffixes_in, install, serve_script, is_file_name, choice_of, choices_of, with_choice, workers_chosen, suffixes_chosen, installs, once, serving_with, serving_of, serve_of}
use Rattle.dnr_words.specs.Reading.{Chosen, installed_in, once_after, chosen_from}

-- what stands once, where these numbers of workers and these suffix lists are chosen
abbrev chosen_with : List ℕ → List (List ℕ) → List ℕ → Option Chosen
chosen_with workers files script =
    option_and_then (λ w. option_map (λ s. record { workers = w; suffixes = s; script = script }) (once files)) (once workers)

-- what stands once behind options that chose this number of workers and this suffix list
abbrev behind : Option ℕ → Option (List ℕ) → Choices → Option Chosen
behind workers suffixes c =
    chosen_with (option_to_list workers ++ filter_map workers_chosen c.choices) (option_to_list suffixes ++ filter_map suffixes_chosen c.choices) c.script

abbrev behind_all : Option ℕ → Option (List ℕ) → Option Choices → Option Chosen
behind_all workers suffixes rest = option_and_then (behind workers suffixes) rest

none_then : {X Y : Type 0} (f : X → Option Y) → ((x : X) → f x ≡ None) → (o : Option X) → None ≡ option_and_then f o
none_then f none None = refl
none_then f none (Some x) = sym (none x)

-- one option more in front
one_more : (workers : Option ℕ) (suffixes : Option (List ℕ)) (choice : Option Choice) (rest : Option Choices)
    (read : Option ℕ → Option (List ℕ) → Option Chosen)
    → ((w : Option ℕ) (s : Option (List ℕ)) → read w s ≡ behind_all w s rest)
    → option_and_then (λ (both : Option ℕ × Option (List ℕ)). read both.0 both.1) (once_after workers suffixes choice)
    ≡ behind_all workers suffixes (option_and_then (λ one. option_map (with_choice one) rest) choice)
one_more workers suffixes None rest read later = refl
one_more workers suffixes (Some (install one)) None read later = later workers suffixes
one_more workers suffixes (Some (install one)) (Some c) read later = later workers suffixes
one_more None suffixes (Some (workers_of count)) None read later = later (Some count) suffixes
one_more None suffixes (Some (workers_of count)) (Some c) read later = later (Some count) suffixes
one_more (Some other) suffixes (Some (workers_of count)) None read later = refl
one_more (Some other) suffixes (Some (workers_of count)) (Some c) read later = refl
one_more workers None (Some (suffixes_in file)) None read later = later workers (Some file)
one_more workers None (Some (suffixes_in file)) (Some c) read later = later workers (Some file)
one_more workers (Some other) (Some (suffixes_in file)) None read later = refl
one_more workers (Some other) (Some (suffixes_in file)) (Some c) read later =
    none_then _ (λ w. refl) (once (option_to_list workers ++ filter_map workers_chosen c.choices))

-- the script is a name or none
last_read : (workers : Option ℕ) (suffixes : Option (List ℕ)) (script : List ℕ) (is_name : Bool)
    → cond is_name (Some (record { workers = workers; suffixes = suffixes; script = script })) None
    ≡ behind_all workers suffixes (cond is_name (Some (record { choices = []; script = script })) None)
last_read None None script true = refl
last_read None (Some file) script true = refl
last_read (Some count) None script true = refl
last_read (Some count) (Some file) script true = refl
last_read workers suffixes script false = refl

all_read : (workers : Option ℕ) (suffixes : Option (List ℕ)) (words : List (List ℕ))
    → chosen_from workers suffixes words ≡ behind_all workers suffixes (choices_of words)
all_read workers suffixes [] = refl
all_read workers suffixes (script ∷ []) = last_read workers suffixes script (is_file_name script)
all_read workers suffixes (option ∷ value ∷ words) =
    one_more workers suffixes (choice_of option value) (choices_of words) (λ w s. chosen_from w s words) (λ w s. all_read w s words)

-- what is installed by options that all choose
abbrev installs_of : Option Choices → List Installed → Type 0
installs_of None installed = Unit {0}
installs_of (Some c) installed = filter_map installs c.choices ≡ installed

one_installed : (choice : Option Choice) (rest : Option Choices) (installed : List Installed)
    → installs_of rest installed
    → installs_of (option_and_then (λ one. option_map (with_choice one) rest) choice) (option_to_list (option_and_then installs choice) ++ installed)
one_installed None rest installed later = tt
one_installed (Some (install one)) None installed later = tt
one_installed (Some (install one)) (Some c) installed later = ap (λ others. one ∷ others) later
one_installed (Some (workers_of count)) None installed later = tt
one_installed (Some (workers_of count)) (Some c) installed later = later
one_installed (Some (suffixes_in file)) None installed later = tt
one_installed (Some (suffixes_in file)) (Some c) installed later = later

last_installed : (script : List ℕ) (is_name : Bool) → installs_of (cond is_name (Some (record { choices = []; script = script })) None) []
last_installed script true = refl
last_installed script false = tt

all_installed : (words : List (List ℕ)) → installs_of (choices_of words) (installed_in words)
all_installed [] = tt
all_installed (script ∷ []) = last_installed script (is_file_name script)
all_installed (option ∷ value ∷ words) = one_installed (choice_of option value) (choices_of words) (installed_in words) (all_installed words)

-- the session of what stands once and what is installed
abbrev pub session : List Installed → Chosen → Task
session installed c =
    serve_script (record { workers = unwrap_or c.workers 1; suffixes = c.suffixes; installed = installed; script = c.script })

with_one : (workers : Option ℕ) (files : List (List ℕ)) (c : Choices) (installed : List Installed) → filter_map installs c.choices ≡ installed
    → option_map (session installed) (option_map (λ s. record { workers = workers; suffixes = s; script = c.script }) (once files))
    ≡ option_map (serving_with c workers) (once files)
with_one workers [] c installed same =
    ap (λ all. Some (serve_script (record { workers = unwrap_or workers 1; suffixes = None; installed = all; script = c.script }))) (sym same)
with_one workers (file ∷ []) c installed same =
    ap (λ all. Some (serve_script (record { workers = unwrap_or workers 1; suffixes = Some file; installed = all; script = c.script }))) (sym same)
with_one workers (file ∷ other ∷ files) c installed same = refl

with_installed : (workers : List ℕ) (files : List (List ℕ)) (c : Choices) (installed : List Installed) → filter_map installs c.choices ≡ installed
    → option_map (session installed) (chosen_with workers files c.script) ≡ option_and_then (λ w. option_map (serving_with c w) (once files)) (once workers)
with_installed [] files c installed same = with_one None files c installed same
with_installed (count ∷ []) files c installed same = with_one (Some count) files c installed same
with_installed (count ∷ other ∷ workers) files c installed same = refl

of_choices : (rest : Option Choices) (installed : List Installed) → installs_of rest installed
    → option_map (session installed) (behind_all None None rest) ≡ option_and_then serving_of rest
of_choices None installed same = refl
of_choices (Some c) installed same = with_installed (filter_map workers_chosen c.choices) (filter_map suffixes_chosen c.choices) c installed same

-- The words ask for the session of what stands once in them, and of what they install.
pub served : (words : List (List ℕ)) → option_map (session (installed_in words)) (chosen_from None None words) ≡ serve_of words
served words =
    ap (option_map (session (installed_in words))) (all_read None None words) ∙ of_choices (choices_of words) (installed_in words) (all_installed words)
