-- Shelves that may be asked for any name.
use Rattle.std.proofs.Common.{ℕ, List, Option, Some, None}
use Rattle.std.specs.Prelude.{IfSome}
use Rattle.dnr_io.specs.Shelf.{Names}
use Rattle.manifest_read.specs.Asked.{MayAskExtension}
use Rattle.session_load.specs.Asked.{MayAsk, MayAskServing}
use Rattle.session_spec.specs.Words.{Installed, folder, list, Serving, Task, match_files, follow_files, check_file, compile_file, serve_script, make_sample, hide_page, prune_file}
use Rattle.dnr_top.specs.Asked.{MayAskTask, MayAskFor}

any_named : (allows : List ℕ → Type 0) (name : Option (List ℕ)) → ((name : List ℕ) → allows name) → IfSome name allows
any_named allows None all = tt
any_named allows (Some name) all = all name

any_installed : (allows : List ℕ → Type 0) (known : Option Names) (installed : Installed) → ((name : List ℕ) → allows name) → MayAsk allows known installed
any_installed allows known (folder name) all = record { manifest = all _; sets = λ manifest held k d inside. all _ }
any_installed allows known (list name file) all = all file

any_serving : (allows : List ℕ → Type 0) (known : Option Names) (serving : Serving) → ((name : List ℕ) → allows name) → MayAskServing allows known serving
any_serving allows known serving all = record {
  suffixes = any_named allows serving.suffixes all;
  installed = λ k d inside. any_installed allows known _ all;
}

any_task : (allows : List ℕ → Type 0) (known : Option Names) (task : Task) → ((name : List ℕ) → allows name) → MayAskTask allows known task
any_task allows known (match_files rules script) all = (all rules, all script)
any_task allows known (follow_files rules script) all = (all rules, all script)
any_task allows known (check_file kind name) all = all name
any_task allows known (compile_file name) all = all name
any_task allows known (serve_script serving) all = (any_serving allows known serving all, all serving.script)
any_task allows known (make_sample sample) all = tt
any_task allows known (hide_page name host) all = all name
any_task allows known (prune_file name) all = all name

pub all_may_be_asked : (allows : List ℕ → Type 0) (known : Option Names) (task : Option Task) → ((name : List ℕ) → allows name) → MayAskFor allows known task
all_may_be_asked allows known None all = tt
all_may_be_asked allows known (Some task) all = any_task allows known task all
