-- What a session wrote, by its status.
use Rattle.std.proofs.Common.{ℕ, List, ◌++◌, Option, Some, None, inl, inr}
use Rattle.dnr_spec.specs.declared.status.Status.{Status}
use Rattle.dnr_spec.specs.declared.status.Status.TheVariants as status
use Rattle.load_spec.specs.Files.{Files}
use Rattle.session_spec.specs.Out.{Outside, Session, setting_of, IsServed, IsBeginning, in_rounds, EndsBy, EndsFor}
use Rattle.session_spec.specs.Words.{Task, match_files, follow_files, check_file, compile_file, serve_script, make_sample, hide_page, prune_file, task_of}
use Rattle.run_laws.specs.Wrote.{IsSession, OfRounds, IsHistoryOf, Meanwhile, WroteSo}
use Rattle.run_laws.specs.Laws.{SessionsAreHistories}
use Rattle.run_laws.proofs.History.{one_history}
use Rattle.run_laws.proofs.Laws.{sessions_begin_at_zero}

pub history_of : (files : Files) (outside : Outside) (session : Session) (Script : List ℕ → Type 0) (rounds_in : List ℕ → List (List (List ℕ))) (written : List ℕ)
    → IsServed files outside session Script rounds_in written → IsHistoryOf files outside session Script rounds_in written
history_of files outside session Script rounds_in written served = record {
  loaded = served.loaded;
  first = served.first;
  opens = served.opens;
  script = served.script;
  holds = served.holds;
  history = one_history outside.hosts (setting_of session served.loaded.suffixes) served.first (rounds_in served.script) written
      (sessions_begin_at_zero files session served.loaded served.first served.opens) served.serves;
}

-- whatever is told of rounds that were served is told of what was written
module _ (Told : OfRounds) (files : Files) (outside : Outside) (session : Session) (name : List ℕ)
    (tells : (Script : List ℕ → Type 0) (rounds_in : List ℕ → List (List (List ℕ))) (written : List ℕ) → IsServed files outside session Script rounds_in written → Told Script rounds_in written) where
  meanwhile_so : (written : List ℕ) → (in_rounds files outside session name).Meanwhile written → Meanwhile Told files outside session name written
  meanwhile_so written (inl all) = inl (tells _ _ written all)
  meanwhile_so written (inr (inl some)) = inr (inl (record { count = some.count; told = tells _ _ written some.served }))
  meanwhile_so written (inr (inr refused)) = inr (inr refused)

  beginning_so : (written : List ℕ) → IsBeginning (in_rounds files outside session name).Meanwhile written → IsBeginning (Meanwhile Told files outside session name) written
  beginning_so written begins = record { rest = begins.rest; whole = meanwhile_so (written ++ begins.rest) begins.whole }

  pub wrote_so : (ended : Status) (written : List ℕ) → EndsBy outside (in_rounds files outside session name) ended written → WroteSo Told files outside session name ended written
  wrote_so status.Done written ends = tells _ _ written ends
  wrote_so status.Refused written ends = ends
  wrote_so status.Usage written ends = ends
  wrote_so status.ReadFault written (shelf, inl none) = inl none
  wrote_so status.ReadFault written (shelf, inr (started, given)) = inr (started, tells _ _ written given)
  wrote_so status.WriteFault written ends = beginning_so written ends.1
  wrote_so status.NoMemory written (inl none) = inl none
  wrote_so status.NoMemory written (inr begins) = inr (beginning_so written begins)
  wrote_so status.FileTooLong written (inl long) = inl long
  wrote_so status.FileTooLong written (inr short) = inr (tells _ _ written short)
  wrote_so status.DiskFault written ends = ends

-- what is said of a command is said of the session that it is
pub of_session : (task : Option Task) (files : Files) (outside : Outside) (session : Session) (name : List ℕ) (ended : Status) (written : List ℕ) → IsSession task session name
    → EndsFor files outside task ended written → EndsBy outside (in_rounds files outside session name) ended written
of_session None files outside session name ended written is ends = absurd is
of_session (Some (match_files rules script)) files outside session name ended written is ends = rw (is.0, is.1) ends
of_session (Some (follow_files rules script)) files outside session name ended written is ends = rw (is.0, is.1) ends
of_session (Some (check_file kind file)) files outside session name ended written is ends = absurd is
of_session (Some (compile_file file)) files outside session name ended written is ends = absurd is
of_session (Some (serve_script serving)) files outside session name ended written is ends = rw (is.0, is.1) ends
of_session (Some (make_sample sample)) files outside session name ended written is ends = absurd is
of_session (Some (hide_page file host)) files outside session name ended written is ends = absurd is
of_session (Some (prune_file file)) files outside session name ended written is ends = absurd is

pub sessions_are_histories : SessionsAreHistories
sessions_are_histories words files outside ended written session name is out =
    wrote_so (IsHistoryOf files outside session) files outside session name (history_of files outside session) ended written
    (of_session (task_of words) files outside session name ended written is out)
