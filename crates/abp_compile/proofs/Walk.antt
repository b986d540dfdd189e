-- The lines of a list, one after another.
use Rattle.std.proofs.Common.{◌≡◌, ℕ, zero, suc, ◌+◌, ◌≤◌, List, length, [], ◌∷◌, ◌++◌, drop, refl, sym, ap, ◌∙◌, subst, arith, append_assoc, cond, true, false, Option, Some, None}
use Rattle.std.specs.Prelude.{slice_get, Err}
use Rattle.dnr_base.specs.Faults.{HasCauseOf}
use Rattle.std.proofs.lemmas.List.{append-nil}
use Rattle.list_spec.specs.LineKind.{FilterLine, filter_line, lines_of, line_of}
use Rattle.list_spec.specs.Says.{is_usable, filter_in, reason_of}
use Rattle.compile_spec.specs.Compiled.{compiled, max_compiled, with_ids, rules_in, origins_in, Placed, and_filter, placed_from, Draft, drafts_in}
use Rattle.list_spec.specs.declared.reason.Reason.TheVariants.{BadRegex}
use Rattle.compile_spec.specs.declared.reported.Reported.{Reported}
use Rattle.compile_spec.specs.Report.{report, report_of, report_from, line_at}
use Rattle.abp_compile.specs.declared.report.CompileRefusal.{CompileRefusal}
use Rattle.abp_compile.specs.declared.report.CompileRefusal.TheVariants.{TooManyRules, HostFault, NoMemory}
use Rattle.abp_compile.specs.declared.work.Work.{Work}
use Rattle.abp_compile.specs.Answers.{StopsAt}
use Rattle.abp_compile.specs.Asked.{StopsOnlyAt}
use Rattle.abp_compile.specs.Groups.{placed_in, HasFilters, Takes}
use Rattle.abp_compile.specs.Work.{HasDrafts}
use Rattle.abp_compile.specs.declared.groups.Groups.{Groups}

split : (number : ℕ) (filter : Option FilterLine) (later : List Placed) → and_filter number filter later ≡ placed_in number filter ++ later
split number None later = refl
split number (Some filter) later = refl

-- what was made of the lines before the rest, which begins with the line of this number
pub record IsAt (lines rest : List ℕ) (number : ℕ) (groups : Groups) (reported : List Reported) : Type 0 where
  pub held : List Placed
  pub has : HasFilters groups held
  pub left : placed_from 1 (lines_of lines) ≡ held ++ placed_from number (lines_of rest)
  pub reports : report_from 1 (lines_of lines) ≡ reported ++ report_from number (lines_of rest)
  pub before : ℕ
  pub follows : number ≡ suc before
  pub place : drop before (lines_of lines) ≡ lines_of rest

pub begins : (lines : List ℕ) (groups : Groups) (reported : List Reported) → HasFilters groups [] → reported ≡ [] → IsAt lines lines 1 groups reported
begins lines groups reported has none = record {
  held = [];
  has = has;
  left = refl;
  reports = ap (λ r. r ++ report_from 1 (lines_of lines)) (sym none);
  before = 0;
  follows = refl;
  place = refl;
}

drop_next : {X : Type 0} (n : ℕ) (xs : List X) (x : X) (rest : List X) → drop n xs ≡ x ∷ rest → drop (suc n) xs ≡ rest
drop_next zero [] x rest e = cc
drop_next zero (y ∷ xs) x rest e = cc
drop_next (suc n) [] x rest e = cc
drop_next (suc n) (y ∷ xs) x rest e = drop_next n xs x rest e

get_here : {X : Type 0} (n : ℕ) (xs : List X) (x : X) (rest : List X) → drop n xs ≡ x ∷ rest → slice_get xs n ≡ Some x
get_here zero [] x rest e = cc
get_here zero (y ∷ xs) x rest e = cc
get_here (suc n) [] x rest e = cc
get_here (suc n) (y ∷ xs) x rest e = get_here n xs x rest e

module _ (lines rest line : List ℕ) (more : List (List ℕ)) (number : ℕ) (old new : Groups) (told now : List Reported) where
  left : (at : IsAt lines rest number old told) → lines_of rest ≡ line ∷ more
      → placed_from 1 (lines_of lines) ≡ (at.held ++ placed_in number (filter_in (line_of line))) ++ placed_from (number + 1) more
  left at cut =
      at.left ∙ ap (λ l. at.held ++ placed_from number l) cut ∙ ap (λ l. at.held ++ l) (split number (filter_in (line_of line)) (placed_from (number + 1) more))
      ∙ sym (append_assoc at.held (placed_in number (filter_in (line_of line))) (placed_from (number + 1) more))

  reports : (at : IsAt lines rest number old told) → lines_of rest ≡ line ∷ more → now ≡ told ++ report_of number (reason_of (line_of line))
      → report_from 1 (lines_of lines) ≡ now ++ report_from (number + 1) more
  reports at cut is =
      at.reports ∙ ap (λ l. told ++ report_from number l) cut
      ∙ sym (append_assoc told (report_of number (reason_of (line_of line))) (report_from (number + 1) more))
      ∙ ap (λ r. r ++ report_from (number + 1) more) (sym is)

  pub goes_on : (later : List ℕ) → IsAt lines rest number old told → lines_of rest ≡ line ∷ more → more ≡ lines_of later
      → Takes (placed_in number (filter_in (line_of line))) old new → now ≡ told ++ report_of number (reason_of (line_of line))
      → IsAt lines later (number + 1) new now
  goes_on later at cut behind takes is = record {
    held = at.held ++ placed_in number (filter_in (line_of line));
    has = takes at.held at.has;
    left = left at cut ∙ ap (λ l. (at.held ++ placed_in number (filter_in (line_of line))) ++ placed_from (number + 1) l) behind;
    reports = reports at cut is ∙ ap (λ l. now ++ report_from (number + 1) l) behind;
    before = suc at.before;
    follows = omega (arith, at.follows);
    place = drop_next at.before (lines_of lines) line more (at.place ∙ cut) ∙ behind;
  }

  pub ends_filters : IsAt lines rest number old told → lines_of rest ≡ line ∷ more → more ≡ [] → Takes (placed_in number (filter_in (line_of line))) old new
      → HasFilters new (placed_from 1 (lines_of lines))
  ends_filters at cut behind takes =
      subst (HasFilters new) (sym (left at cut ∙ ap (λ l. (at.held ++ placed_in number (filter_in (line_of line))) ++ placed_from (number + 1) l) behind ∙ append-nil _)) (takes at.held at.has)

  pub ends_reported : IsAt lines rest number old told → lines_of rest ≡ line ∷ more → more ≡ [] → now ≡ told ++ report_of number (reason_of (line_of line))
      → now ≡ report_from 1 (lines_of lines)
  ends_reported at cut behind is = sym (reports at cut is ∙ ap (λ l. now ++ report_from (number + 1) l) behind ∙ append-nil _)

  pub stops_there : IsAt lines rest number old told → lines_of rest ≡ line ∷ more → (refusal : CompileRefusal) → StopsOnlyAt number (line_of line) refusal → StopsAt (lines_of lines) refusal
  stops_there at cut (TooManyRules count) stops = tt
  stops_there at cut NoMemory stops = tt
  stops_there at cut (HostFault place) stops =
      let there : line_at (lines_of lines) place ≡ Some line = ap (line_at (lines_of lines)) (stops.0 ∙ at.follows) ∙ get_here at.before (lines_of lines) line more (at.place ∙ cut) in
      record { line = line; filter = stops.1; pattern = stops.3.0; there = there; reads = stops.2; regex = stops.3.1; short = stops.3.2 }

-- ---- a filter

pub takes_none : (before now : Groups) → now ≡ before → Takes [] before now
takes_none before now same placed has = subst (λ (g : Groups). HasFilters g (placed ++ [])) (sym same) (subst (HasFilters before) (sym (append-nil placed)) has)

pub usable_takes : (n : ℕ) (f : FilterLine) (old new : Groups) → is_usable f.pattern ≡ true → Takes (record { line = n; filter = f } ∷ []) old new → Takes (placed_in n (filter_in (filter_line f))) old new
usable_takes n f old new e takes = subst (λ (o : Option FilterLine). Takes (placed_in n o) old new) (sym (ap (λ b. cond b (Some f) None) e)) takes

pub bad_takes : (n : ℕ) (f : FilterLine) (old new : Groups) → is_usable f.pattern ≡ false → Takes [] old new → Takes (placed_in n (filter_in (filter_line f))) old new
bad_takes n f old new e takes = subst (λ (o : Option FilterLine). Takes (placed_in n o) old new) (sym (ap (λ b. cond b (Some f) None) e)) takes

pub usable_reported : (n : ℕ) (f : FilterLine) (old new : List Reported) → is_usable f.pattern ≡ true → new ≡ old → new ≡ old ++ report_of n (reason_of (filter_line f))
usable_reported n f old new e same = same ∙ sym (append-nil old) ∙ ap (λ b. old ++ report_of n (cond b None (Some BadRegex))) (sym e)

pub bad_reported : (n : ℕ) (f : FilterLine) (old new : List Reported) → is_usable f.pattern ≡ false → new ≡ old ++ record { line = n; reason = BadRegex } ∷ []
    → new ≡ old ++ report_of n (reason_of (filter_line f))
bad_reported n f old new e more = more ∙ ap (λ b. old ++ report_of n (cond b None (Some BadRegex))) (sym e)

-- ---- the list

length-with_ids : (id : ℕ) (xs : List Draft) → length (with_ids id xs) ≡ length xs
length-with_ids id [] = refl
length-with_ids id (x ∷ xs) = ap suc (length-with_ids (id + 1) xs)

pub length-compiled : (lines : List (List ℕ)) → length (compiled lines) ≡ length (drafts_in lines)
unfolding compiled
length-compiled lines = length-with_ids 1 (drafts_in lines)

pub rules_compiled : (lines : List (List ℕ)) (work : Work) → HasDrafts work (drafts_in lines) → work.count ≤ max_compiled → work.rules.items ≡ rules_in (compiled lines)
unfolding compiled
rules_compiled lines work has few = has.rules few

pub origins_compiled : (lines : List (List ℕ)) (work : Work) → HasDrafts work (drafts_in lines) → work.count ≤ max_compiled → work.origins.items ≡ origins_in (compiled lines)
unfolding compiled
origins_compiled lines work has few = has.origins few

pub reported_whole : (lines : List (List ℕ)) → report_from 1 lines ≡ report lines
unfolding report
reported_whole lines = refl

-- ---- a refusal that is handed on

pub same_cause : {T U E : Type 0} (fault : E) (before now : ℕ) (refusal : E) → HasCauseOf {T = T} fault before now (Err refusal) → HasCauseOf {T = U} fault before now (Err refusal)
same_cause fault before now refusal cause = record {
  later = cause.later;
  failed = λ is. let one : refusal ≡ fault = cc in cause.failed (ap Err one);
}
