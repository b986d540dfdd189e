-- Which files of a shelf a command reads.
use Rattle.std.specs.Prelude.{ℕ, List, Bool, true, false, Option, None, Some}
use Rattle.dnr_io.specs.Shelf.{Names}
use Rattle.session_load.specs.Asked.{MayAskServing}
use Rattle.session_spec.specs.Words.{Task, match_files, follow_files, check_file, compile_file, serve_script, make_sample, hide_page, prune_file}

-- The files of a command may be asked for: those that its words name, and those that the manifests name which it reads.
abbrev pub MayAskTask : (List ℕ → Type 0) → Option Names → Task → Type 0
MayAskTask allows known (match_files rules script) = allows rules × allows script
MayAskTask allows known (follow_files rules script) = allows rules × allows script
MayAskTask allows known (check_file kind name) = allows name
MayAskTask allows known (compile_file name) = allows name
MayAskTask allows known (serve_script serving) = MayAskServing allows known serving × allows serving.script
MayAskTask allows known (make_sample sample) = Unit {0}
MayAskTask allows known (hide_page list host) = allows list
MayAskTask allows known (prune_file name) = allows name

-- words that say no command name no file
abbrev pub MayAskFor : (List ℕ → Type 0) → Option Names → Option Task → Type 0
MayAskFor allows known None = Unit {0}
MayAskFor allows known (Some task) = MayAskTask allows known task

-- the command that answers the requests of a file by the rules of a file, and follows them or not
abbrev pub requests_task : Bool → List ℕ → List ℕ → Task
requests_task true rules script = follow_files rules script
requests_task false rules script = match_files rules script
