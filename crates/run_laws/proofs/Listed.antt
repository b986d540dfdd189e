-- Where a filter list is installed alone, the session blocks what the list says.
use Rattle.std.specs.Bool.{Decides}
use Rattle.std.proofs.Common.{◌≡◌, ℕ, List, [], ◌∷◌, Option, Some, None, Result, Ok, refl, sym, ap, ◌∙◌, subst}
use Rattle.std.specs.List.{AllZip}
use Rattle.dnr_base.specs.declared.request.Request.{Request}
use Rattle.rule_spec.specs.State.{State}
use Rattle.rule_spec.specs.Scan.{Verdict, scan}
use Rattle.rule_spec.specs.declared.outcome.Outcome.TheVariants as outcome
use Rattle.explain_spec.specs.Explanation.{Explanation, explanation_of}
use Rattle.list_spec.specs.LineKind as lists
use Rattle.list_spec.specs.Says.{says}
use Rattle.compile_spec.specs.Compiled.{compiled}
use Rattle.compile_spec.specs.Installed.{list_extension}
use Rattle.compile_laws.proofs.Scanned.{lists_block_what_they_say}
use Rattle.update_spec.specs.declared.refusal.Refusal.{Refusal}
use Rattle.update_spec.specs.Update.{NewExtension, install, changed}
use Rattle.update_spec.specs.Judge.{judge_update}
use Rattle.update_spec.specs.Entries.{RefusedInstall, changed_unless, install_then, empty, opening}
use Rattle.load_spec.specs.Files.{Files, HoldsFile}
use Rattle.session_spec.specs.Loading.{HoldsListExtension, Reads}
use Rattle.session_spec.specs.Out.{Outside, of_words, IsServed}
use Rattle.session_spec.specs.Said.{Answer, decided, explained, failed, traced, failed_at}
use Rattle.session_spec.specs.Words.{Installed, list, Serving, task_of}
use Rattle.run_laws.specs.History.{Place, number_at, command_at, Transcript, state_after}
use Rattle.run_laws.specs.Printed.{IsAnswerOn}
use Rattle.run_laws.specs.Listed.{asked_about, verdict_in, transcript_of, BlocksAsListed}
use Rattle.run_laws.specs.Laws.{ListsBlockWhatTheySay, ServedListsBlockWhatTheySay}
use Rattle.run_laws.proofs.Printed.{verdicts_are_scans}
use Rattle.run_laws.proofs.Views.{known_views}
use Rattle.run_laws.proofs.Wrote.{history_of, wrote_so, of_session}

-- the list of these bytes is the only extension
record IsAlone (files : Files) (name file : List ℕ) (first : State) : Type 0 where
  bytes : List ℕ
  held : HoldsFile files file bytes
  alone : first.extensions ≡ list_extension name (compiled (lists.lines_of bytes)) ∷ []

opened_with : (judged : Option Refusal) (new : NewExtension) (first : State) → ◌≡◌ {A = Result State RefusedInstall} (install_then (changed_unless judged empty new) (λ next. Ok next)) (Ok first)
    → first ≡ changed empty (install new)
opened_with None new first is = cc is
opened_with (Some refusal) new first is = absurd (cc is)

only_list : (files : Files) (name file : List ℕ) (extensions : List NewExtension) (first : State) → AllZip (Reads files) (list name file ∷ []) extensions → opening extensions ≡ Ok first → IsAlone files name file first
only_list files name file [] first read is = absurd read
only_list files name file (new ∷ []) first read is =
    let one : HoldsListExtension files name file new = read.0 in
    record {
      bytes = one.bytes;
      held = one.held.file;
      alone = ap (λ (s : State). s.extensions) (opened_with (judge_update empty (install new)) new first is)
          ∙ ap (λ n. (changed empty (install n)).extensions) one.same ∙ ap (λ rules. list_extension name rules ∷ []) one.held.same;
    }
only_list files name file (new ∷ other ∷ extensions) first read is = absurd read.1

about : (t : Transcript) (at : Place) (answer : Answer) (state : State) (r : Request) (verdict : Verdict) → verdict_in answer ≡ Some verdict → asked_about (command_at t.setting at) ≡ Some r
    → IsAnswerOn t at answer state → verdict ≡ scan t.setting.suffixes state r
unfolding explanation_of
about t at (decided v) state r verdict has asks fits =
    let read = fits.1 in
    let asked : fits.0 ≡ r = let both : Some fits.0 ≡ Some r = ap asked_about (sym read) ∙ asks in cc both in
    let same : v ≡ verdict = cc has in
    sym same ∙ fits.2 ∙ ap (λ q. scan t.setting.suffixes state q) asked
about t at (explained explanation) state r verdict has asks fits =
    let read = fits.1 in
    let asked : fits.0 ≡ r = let both : Some fits.0 ≡ Some r = ap asked_about (sym read) ∙ asks in cc both in
    let same : explanation.verdict ≡ verdict = cc has in
    sym same ∙ ap (λ (e : Explanation). e.verdict) fits.2 ∙ ap (λ q. scan t.setting.suffixes state q) asked
about t at (failed rule) state r verdict has asks fits = absurd (cc has)
about t at (traced way) state r verdict has asks fits = absurd (cc has)
about t at (failed_at hop rule) state r verdict has asks fits = absurd (cc has)

pub lists_block : ListsBlockWhatTheySay
lists_block t written told name bytes alone at r verdict one =
    let state : State = state_after t one.number in
    let answer = verdicts_are_scans t written told at one.seat one.number one.answer one.says in
    let scanned : verdict ≡ scan t.setting.suffixes state r = about t at one.answer state r verdict one.has one.asks answer.of_state.fits in
    subst (λ (v : Verdict). Decides (says (lists.lines_of bytes) t.setting.suffixes r) (v.outcome ≡ outcome.Block)) (sym scanned)
    (lists_block_what_they_say name (lists.lines_of bytes) t.setting.suffixes state r (known_views t.setting.updates (number_at at) at.line r one.asks) (one.unchanged ∙ alone))

-- rounds that were served where the list is all that is installed
listed : (files : Files) (outside : Outside) (serving : Serving) (name file : List ℕ) → serving.installed ≡ list name file ∷ [] → (Script : List ℕ → Type 0) (rounds_in : List ℕ → List (List (List ℕ))) (written : List ℕ)
    → IsServed files outside (of_words serving) Script rounds_in written → BlocksAsListed files outside serving file Script rounds_in written
listed files outside serving name file alone Script rounds_in written served =
    let history = history_of files outside (of_words serving) Script rounds_in written served in
    let only = only_list files name file history.loaded.extensions history.first
    (subst (λ (ones : List Installed). AllZip (Reads files) ones history.loaded.extensions) alone history.opens.read.extensions) history.opens.installed in
    record {
      history = history;
      bytes = only.bytes;
      held = only.held;
      blocks = lists_block (transcript_of files outside (of_words serving) Script rounds_in written history) written history.history.told name only.bytes only.alone;
    }

pub served_lists_block_what_they_say : ServedListsBlockWhatTheySay
served_lists_block_what_they_say words files outside ended written serving name file is alone out =
    wrote_so (BlocksAsListed files outside serving file) files outside (of_words serving) serving.script (listed files outside serving name file alone) ended written
    (of_session (task_of words) files outside (of_words serving) serving.script ended written (rw is (refl, refl)) out)
