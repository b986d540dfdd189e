-- What stands written is a beginning of what may be written whole.
use Rattle.std.proofs.Common.{◌≡◌, ◌⊎◌, ℕ, zero, suc, ◌≤◌, List, [], ◌∷◌, ◌++◌, length, take, true, false, Option, Some, None, refl, sym, ap, ◌∙◌, inl, inr, ⊎_elim, subst, arith, append_assoc, append-nil}
use Rattle.std.specs.Prelude.{slice_get}
use Rattle.std.proofs.lemmas.Bool.{cases_Bool, both_ways}
use Rattle.dnr_base.specs.Faults.{Count}
use Rattle.dnr_spec.specs.declared.status.Status.{Status}
use Rattle.dnr_spec.specs.declared.status.Status.TheVariants as status
use Rattle.dnr_spec.specs.Lines.{lines_of, is_within_limits}
use Rattle.rule_spec.specs.State.{State}
use Rattle.load_spec.specs.Files.{Files, HoldsLongFile}
use Rattle.session_spec.specs.Answers.{HostRisesBy, Serves}
use Rattle.session_spec.specs.Hiding.{IsHidden, HidesTooMuch}
use Rattle.session_spec.specs.Loading.{PrintsRefusedRules, PrintsRefusedList, Loaded}
use Rattle.session_spec.specs.Out.{Outside, HostRose, IsCounted, IsCompiled, Session, of_rules, of_words, setting_of, Opens, ServesAll, ServesShort, ServesSome, Conduct, at_once, in_rounds, conduct_of, IsBeginning, EndsBy, EndsFor}
use Rattle.session_spec.specs.Pruning.{IsPruned, RefusesPruning}
use Rattle.session_spec.specs.Rounds.{rounds_of, whole_rounds_of, short_lines}
use Rattle.session_spec.specs.Sample.{IsSampled}
use Rattle.session_spec.specs.Words.{Task, match_files, follow_files, check_file, compile_file, serve_script, make_sample, hide_page, prune_file, task_of}
use Rattle.run_laws.specs.Finished.{CanBeFinished, EndsWith}
use Rattle.run_laws.specs.InTurn.{NoneFell, text_in_turn}
use Rattle.run_laws.specs.Laws.{RoundsInTurnAreServed, ServedRoundsGoOn, SessionsMayAnswerInTurn, WhatStandsIsABeginning, SessionsCanBeFinished}
use Rattle.run_laws.specs.Wrote.{IsSession}
use Rattle.run_laws.proofs.Cuts.{Begins, begins_on, begins_all, begins_taken, rounds_given, rounds_within}
use Rattle.run_laws.proofs.Going.{served_in_turn, goes_on}
use Rattle.run_laws.proofs.Wrote.{of_session}

-- ---- sessions that answer in turn

none_rose : (hosts : List Count) → NoneFell hosts → (place : ℕ) → HostRisesBy 0 (slice_get hosts place)
none_rose [] none place = refl
none_rose (count ∷ hosts) none zero = let kept : count.before ≤ count.now = none 0 count (omega arith) in omega (arith, kept)
none_rose (count ∷ hosts) none (suc place) = none_rose hosts (λ k d inside. none (suc k) d (omega (arith, inside))) place

pub rounds_in_turn_are_served : RoundsInTurnAreServed
rounds_in_turn_are_served hosts setting first rounds none = served_in_turn hosts setting first rounds (none_rose hosts none)

pub served_rounds_go_on : ServedRoundsGoOn
served_rounds_go_on = goes_on

-- the command is a session, so what is said of its conduct is said of what it may do
at_session : (task : Option Task) (files : Files) (outside : Outside) (session : Session) (name : List ℕ) (ended : Status) (written : List ℕ) → IsSession task session name
    → EndsBy outside (in_rounds files outside session name) ended written → EndsFor files outside task ended written
at_session None files outside session name ended written is ends = absurd is
at_session (Some (match_files rules script)) files outside session name ended written is ends =
    subst (λ (n : List ℕ). EndsBy outside (in_rounds files outside (of_rules false rules) n) ended written) is.1
    (subst (λ (s : Session). EndsBy outside (in_rounds files outside s name) ended written) is.0 ends)
at_session (Some (follow_files rules script)) files outside session name ended written is ends =
    subst (λ (n : List ℕ). EndsBy outside (in_rounds files outside (of_rules true rules) n) ended written) is.1
    (subst (λ (s : Session). EndsBy outside (in_rounds files outside s name) ended written) is.0 ends)
at_session (Some (check_file kind file)) files outside session name ended written is ends = absurd is
at_session (Some (compile_file file)) files outside session name ended written is ends = absurd is
at_session (Some (serve_script serving)) files outside session name ended written is ends =
    subst (λ (n : List ℕ). EndsBy outside (in_rounds files outside (of_words serving) n) ended written) is.1
    (subst (λ (s : Session). EndsBy outside (in_rounds files outside s name) ended written) is.0 ends)
at_session (Some (make_sample sample)) files outside session name ended written is ends = absurd is
at_session (Some (hide_page file host)) files outside session name ended written is ends = absurd is
at_session (Some (prune_file file)) files outside session name ended written is ends = absurd is

pub sessions_may_answer_in_turn : SessionsMayAnswerInTurn
sessions_may_answer_in_turn words files outside session name loaded first script is none opens held =
    let setting = setting_of session loaded.suffixes in
    let serves = λ (rounds : List (List (List ℕ))). served_in_turn outside.hosts setting first rounds (none_rose outside.hosts none) in
    record {
      all = λ within. at_session (task_of words) files outside session name status.Done (text_in_turn setting first (rounds_of (lines_of script))) is
          (record { loaded = loaded; first = first; opens = opens; script = script; holds = record { held = held; within = within }; serves = serves (rounds_of (lines_of script)) });
      short = λ beyond. at_session (task_of words) files outside session name status.FileTooLong (text_in_turn setting first (whole_rounds_of (short_lines script))) is
          (inr (record { loaded = loaded; first = first; opens = opens; script = script; holds = record { held = held; beyond = beyond }; serves = serves (whole_rounds_of (short_lines script)) }));
    }

-- ---- what stands written of a session

-- what the session writes whole, of all its script or of what is not too long
abbrev Finishes : Files → Outside → Session → List ℕ → List ℕ → Type 0
Finishes files outside session name written = ServesAll files outside session name written ⊎ ServesShort files outside session name written

-- it served these rounds, which are the first of those that are whole
finished : (files : Files) (outside : Outside) (session : Session) (name script written : List ℕ) (rounds : List (List (List ℕ))) (loaded : Loaded) (first : State)
    → files name ≡ Some script → Opens files session loaded first → Begins (List (List ℕ)) rounds (whole_rounds_of (short_lines script))
    → Serves outside.hosts (setting_of session loaded.suffixes) first rounds written → IsBeginning (Finishes files outside session name) written
finished files outside session name script written rounds loaded first held opens begins serves =
    let setting = setting_of session loaded.suffixes in
    ⊎_elim
    (λ (within : is_within_limits script ≡ true).
    let all = begins_on (List (List ℕ)) rounds (whole_rounds_of (short_lines script)) (rounds_of (lines_of script)) begins (rounds_within script within) in
    let more = goes_on outside.hosts setting first rounds all.rest written serves in
    record {
      rest = more.rest;
      whole = inl (record {
        loaded = loaded;
        first = first;
        opens = opens;
        script = script;
        holds = record { held = held; within = within };
        serves = subst (λ (rs : List (List (List ℕ))). Serves outside.hosts setting first rs (written ++ more.rest)) (sym all.split) more.serves;
      });
    })
    (λ (beyond : is_within_limits script ≡ false).
    let more = goes_on outside.hosts setting first rounds begins.rest written serves in
    record {
      rest = more.rest;
      whole = inr (record {
        loaded = loaded;
        first = first;
        opens = opens;
        script = script;
        holds = record { held = held; beyond = beyond };
        serves = subst (λ (rs : List (List (List ℕ))). Serves outside.hosts setting first rs (written ++ more.rest)) (sym begins.split) more.serves;
      });
    })
    (cases_Bool (is_within_limits script))

-- what a command of this conduct writes whole
abbrev WholeBy : Conduct → List ℕ → Type 0
WholeBy conduct written = conduct.Done written ⊎ conduct.Refused written ⊎ conduct.TooLong written

abbrev StandsBy : Conduct → List ℕ → Type 0
StandsBy conduct written = (written ≡ []) ⊎ IsBeginning (WholeBy conduct) written

as_it_is : (May : List ℕ → Type 0) (written : List ℕ) → May written → IsBeginning May written
as_it_is May written whole = record { rest = []; whole = subst May (sym (append-nil written)) whole }

-- a beginning of a beginning
begins_beginning : (May : List ℕ → Type 0) (written rest : List ℕ) → IsBeginning May (written ++ rest) → IsBeginning May written
begins_beginning May written rest begins = record { rest = rest ++ begins.rest; whole = subst May (append_assoc written rest begins.rest) begins.whole }

weaker : (May Other : List ℕ → Type 0) (written : List ℕ) → ((bytes : List ℕ) → May bytes → Other bytes) → IsBeginning May written → IsBeginning Other written
weaker May Other written on begins = record { rest = begins.rest; whole = on (written ++ begins.rest) begins.whole }

module _ (files : Files) (outside : Outside) (session : Session) (name : List ℕ) where
  whole_of : (bytes : List ℕ) → Finishes files outside session name bytes → WholeBy (in_rounds files outside session name) bytes
  whole_of bytes (inl all) = inl all
  whole_of bytes (inr short) = inr (inr (inr short))

  rounds_finished : (script written : List ℕ) (rounds : List (List (List ℕ))) (loaded : Loaded) (first : State)
      → files name ≡ Some script → Opens files session loaded first → Begins (List (List ℕ)) rounds (whole_rounds_of (short_lines script))
      → Serves outside.hosts (setting_of session loaded.suffixes) first rounds written → IsBeginning (WholeBy (in_rounds files outside session name)) written
  rounds_finished script written rounds loaded first held opens begins serves =
      weaker (Finishes files outside session name) (WholeBy (in_rounds files outside session name)) written whole_of
      (finished files outside session name script written rounds loaded first held opens begins serves)

  some_finished : (written : List ℕ) → ServesSome files outside session name written → IsBeginning (WholeBy (in_rounds files outside session name)) written
  some_finished written some =
      let served = some.served in
      rounds_finished served.script written (take some.count (whole_rounds_of (short_lines served.script))) served.loaded served.first served.holds served.opens
      (begins_taken (List (List ℕ)) some.count (whole_rounds_of (short_lines served.script))) served.serves

  meanwhile_stands : (written : List ℕ) → (in_rounds files outside session name).Meanwhile written → IsBeginning (WholeBy (in_rounds files outside session name)) written
  meanwhile_stands written (inl all) = as_it_is (WholeBy (in_rounds files outside session name)) written (inl all)
  meanwhile_stands written (inr (inl some)) = some_finished written some
  meanwhile_stands written (inr (inr refused)) = as_it_is (WholeBy (in_rounds files outside session name)) written (inr (inl refused))

  beginning_stands : (written : List ℕ) → IsBeginning (in_rounds files outside session name).Meanwhile written → IsBeginning (WholeBy (in_rounds files outside session name)) written
  beginning_stands written begins =
      begins_beginning (WholeBy (in_rounds files outside session name)) written begins.rest (meanwhile_stands (written ++ begins.rest) begins.whole)

  stands : (ended : Status) (written : List ℕ) → EndsBy outside (in_rounds files outside session name) ended written → StandsBy (in_rounds files outside session name) written
  stands status.Done written ends = inr (as_it_is (WholeBy (in_rounds files outside session name)) written (inl ends))
  stands status.Refused written ends = inr (as_it_is (WholeBy (in_rounds files outside session name)) written (inr (inl ends)))
  stands status.Usage written ends = absurd ends
  stands status.ReadFault written (shelf, inl none) = inl none.1
  stands status.ReadFault written (shelf, inr (started, given)) =
      let all = given.holds in
      inr (rounds_finished (given.script ++ outside.left) written _ given.loaded given.first
      (all.held ∙ ap Some all.split) given.opens (rounds_given given.script outside.left) given.serves)
  stands status.WriteFault written ends = inr (beginning_stands written ends.1)
  stands status.NoMemory written (inl none) = inl none
  stands status.NoMemory written (inr begins) = inr (beginning_stands written begins)
  stands status.FileTooLong written ends = inr (as_it_is (WholeBy (in_rounds files outside session name)) written (inr (inr ends)))
  stands status.DiskFault written ends = absurd ends

-- ---- commands that write one text

module _ (outside : Outside) (Done Refused : List ℕ → Type 0) (TooLong : Type 0) where
  either_whole : (bytes : List ℕ) → Done bytes ⊎ Refused bytes → WholeBy (at_once Done Refused TooLong) bytes
  either_whole bytes (inl done) = inl done
  either_whole bytes (inr refused) = inr (inl refused)

  stands_at_once : (ended : Status) (written : List ℕ) → EndsBy outside (at_once Done Refused TooLong) ended written → StandsBy (at_once Done Refused TooLong) written
  stands_at_once status.Done written ends = inr (as_it_is (WholeBy (at_once Done Refused TooLong)) written (inl ends))
  stands_at_once status.Refused written ends = inr (as_it_is (WholeBy (at_once Done Refused TooLong)) written (inr (inl ends)))
  stands_at_once status.Usage written ends = absurd ends
  stands_at_once status.ReadFault written ends = inl ends.1
  stands_at_once status.WriteFault written ends = inr (weaker (λ bytes. Done bytes ⊎ Refused bytes) (WholeBy (at_once Done Refused TooLong)) written either_whole ends.1)
  stands_at_once status.NoMemory written (inl none) = inl none
  stands_at_once status.NoMemory written (inr begins) = inr (weaker (λ bytes. Done bytes ⊎ Refused bytes) (WholeBy (at_once Done Refused TooLong)) written either_whole begins)
  stands_at_once status.FileTooLong written ends = inl ends.1
  stands_at_once status.DiskFault written ends = absurd ends

-- ---- every command

task_stands : (task : Task) (files : Files) (outside : Outside) (ended : Status) (written : List ℕ) → EndsBy outside (conduct_of files outside task) ended written → StandsBy (conduct_of files outside task) written
task_stands (match_files rules script) files outside ended written ends = stands files outside (of_rules false rules) script ended written ends
task_stands (follow_files rules script) files outside ended written ends = stands files outside (of_rules true rules) script ended written ends
task_stands (check_file kind name) files outside ended written ends =
    stands_at_once outside (IsCounted files kind name) (PrintsRefusedRules files (HostRose outside 0) kind name) (HoldsLongFile files name) ended written ends
task_stands (compile_file name) files outside ended written ends =
    stands_at_once outside (IsCompiled files name) (PrintsRefusedList files (HostRose outside 0) name) (HoldsLongFile files name) ended written ends
task_stands (serve_script serving) files outside ended written ends = stands files outside (of_words serving) serving.script ended written ends
task_stands (make_sample sample) files outside ended written ends = stands_at_once outside (IsSampled sample) (λ bytes. ⊥) ⊥ ended written ends
task_stands (hide_page name host) files outside ended written ends =
    stands_at_once outside (IsHidden files name host) (HidesTooMuch files name) (HoldsLongFile files name) ended written ends
task_stands (prune_file name) files outside ended written ends =
    stands_at_once outside (IsPruned files name) (RefusesPruning files (HostRose outside 0) name) (HoldsLongFile files name) ended written ends

-- the same of words that say a command, or none
abbrev WholeFor : Files → Outside → Option Task → List ℕ → Type 0
WholeFor files outside task written =
    EndsFor files outside task status.Done written ⊎ EndsFor files outside task status.Refused written ⊎ EndsFor files outside task status.FileTooLong written

words_stand : (task : Option Task) (files : Files) (outside : Outside) (ended : Status) (written : List ℕ) → EndsFor files outside task ended written
    → (written ≡ []) ⊎ IsBeginning (WholeFor files outside task) written
words_stand None files outside ended written ends = inl ends.1
words_stand (Some task) files outside ended written ends = task_stands task files outside ended written ends

pub what_stands_is_a_beginning : WhatStandsIsABeginning
what_stands_is_a_beginning words files outside ended written out = words_stand (task_of words) files outside ended written out

-- ---- the whole script of a session

front_of_nothing : (written rest : List ℕ) → written ++ rest ≡ [] → written ≡ []
front_of_nothing [] rest none = refl
front_of_nothing (b ∷ written) rest none = absurd (let long = ap length none in omega (arith, long))

module _ (words : List (List ℕ)) (files : Files) (outside : Outside) (session : Session) (name : List ℕ) (is : IsSession (task_of words) session name) where
  ends_with : (ended : Status) (written rest : List ℕ) → EndsBy outside (in_rounds files outside session name) ended (written ++ rest) → EndsWith words files outside ended written
  ends_with ended written rest ends = record { rest = rest; whole = at_session (task_of words) files outside session name ended (written ++ rest) is ends }

  of_whole : (written rest : List ℕ) → WholeBy (in_rounds files outside session name) (written ++ rest)
      → (written ≡ []) ⊎ EndsWith words files outside status.Refused written ⊎ CanBeFinished words files outside name written
  of_whole written rest (inl done) =
      inr (inr (record {
        script = done.script;
        held = done.holds.held;
        all = λ within. ends_with status.Done written rest done;
        short = λ beyond. absurd (both_ways (is_within_limits done.script) beyond done.holds.within);
      }))
  of_whole written rest (inr (inl refused)) = inr (inl (ends_with status.Refused written rest refused))
  of_whole written rest (inr (inr (inl long))) = inl (front_of_nothing written rest long.1)
  of_whole written rest (inr (inr (inr short))) =
      inr (inr (record {
        script = short.script;
        held = short.holds.held;
        all = λ within. absurd (both_ways (is_within_limits short.script) short.holds.beyond within);
        short = λ beyond. ends_with status.FileTooLong written rest (inr short);
      }))

  of_stands : (written : List ℕ) → StandsBy (in_rounds files outside session name) written → (written ≡ []) ⊎ EndsWith words files outside status.Refused written ⊎ CanBeFinished words files outside name written
  of_stands written (inl none) = inl none
  of_stands written (inr begins) = of_whole written begins.rest begins.whole

pub sessions_can_be_finished : SessionsCanBeFinished
sessions_can_be_finished words files outside ended written session name is out =
    of_stands words files outside session name is written
    (stands files outside session name ended written (of_session (task_of words) files outside session name ended written is out))
