-- How the options of `serve` are gone over: each is judged by those before it.
use Rattle.std.specs.Prelude.{ℕ, List, [], ◌∷◌, ◌++◌, Option, Some, None, option_and_then, if◌then◌else◌}
use Rattle.std.specs.Option.{option_to_list}
use Rattle.session_spec.specs.Words.{Installed, Choice, workers_of, suffixes_in, install, is_file_name, choice_of, installs}

-- what options and their values install; words that choose nothing install nothing
abbrev pub installed_in : List (List ℕ) → List Installed
installed_in [] = []
installed_in (script ∷ []) = []
installed_in (option ∷ value ∷ words) = option_to_list (option_and_then installs (choice_of option value)) ++ installed_in words

-- the number of workers after one more that is named, beside the suffix list
abbrev pub workers_after : Option ℕ → Option (List ℕ) → ℕ → Option (Option ℕ × Option (List ℕ))
workers_after None suffixes count = Some (Some count, suffixes)
workers_after (Some other) suffixes count = None

-- the suffix list after one more that is named, beside the number of workers
abbrev pub suffixes_after : Option ℕ → Option (List ℕ) → List ℕ → Option (Option ℕ × Option (List ℕ))
suffixes_after workers None file = Some (workers, Some file)
suffixes_after workers (Some other) file = None

-- what stands once after one more option
abbrev pub once_after : Option ℕ → Option (List ℕ) → Option Choice → Option (Option ℕ × Option (List ℕ))
once_after workers suffixes None = None
once_after workers suffixes (Some (workers_of count)) = workers_after workers suffixes count
once_after workers suffixes (Some (suffixes_in file)) = suffixes_after workers suffixes file
once_after workers suffixes (Some (install one)) = Some (workers, suffixes)

-- what stands once: the number of workers and the suffix list, if they are named, and the script
pub record Chosen : Type 0 where
  pub workers : Option ℕ
  pub suffixes : Option (List ℕ)
  pub script : List ℕ

-- what stands once in these words, behind options that chose this number of workers and this suffix list
abbrev pub chosen_from : Option ℕ → Option (List ℕ) → List (List ℕ) → Option Chosen
chosen_from workers suffixes [] = None
chosen_from workers suffixes (script ∷ []) =
    if is_file_name script then Some (record { workers = workers; suffixes = suffixes; script = script }) else None
chosen_from workers suffixes (option ∷ value ∷ words) =
    option_and_then (λ (once : Option ℕ × Option (List ℕ)). chosen_from once.0 once.1 words)
    (once_after workers suffixes (choice_of option value))
