-- What one line is told, in parts.
use Rattle.std.proofs.Common.{◌≡◌, ◌≢◌, ◌⊎◌, ℕ, ◌+◌, ◌<◌, ◌≤◌, List, [], ◌∷◌, ◌++◌, length, Bool, true, false, cond, Option, Some, None, Result, Ok, Err, bytes_eq, refl, sym, ap, ◌∙◌, inl, inr, subst, arith}
use Rattle.std.specs.Prelude.{nat_le}
use Rattle.std.proofs.lemmas.Bool.Decides.{nat_tests}
use Rattle.std.proofs.lemmas.Slice.Eq.{bytes_eq-Decides}
use Rattle.dnr_base.specs.Faults.{Rose}
use Rattle.rule_spec.specs.Rule.{Rule}
use Rattle.update_spec.specs.declared.refusal.Refusal.{Refusal}
use Rattle.update_spec.specs.Update.{Update, dynamic, session, rulesets, static, install, uninstall}
use Rattle.update_spec.specs.Judge.{judge_update}
use Rattle.update_spec.specs.Entries.{one, after}
use Rattle.line_spec.specs.declared.command_path.CommandPath.TheVariants.{Cmd}
use Rattle.line_spec.specs.declared.line_fault.LineFault.{LineFault}
use Rattle.line_spec.specs.declared.line_fault.LineFault.TheVariants.{BadCommand, NoMemory}
use Rattle.line_spec.specs.IsFault.{IsFaultOfLine}
use Rattle.line_spec.specs.Line.{Command, blank, update, command_of}
use Rattle.line_spec.specs.Stops.{StopsInLine}
use Rattle.session_spec.specs.Answers.{RisesBy}
use Rattle.session_spec.specs.Output.{accepted_line, refused_line, bad_line}
use Rattle.session_spec.specs.Said.{bad, stopped}
use Rattle.keep_records.specs.Ends.{max_file}
use Rattle.keep_laws.specs.Laws.{ReadUpdatesMayBeKept}
use Rattle.keep_laws.proofs.Accepted.{state_push}
use Rattle.keep_spec.specs.Kept.{Kept, dynamic_of, state_of}
use Rattle.keep_spec.specs.Written.{MayBeKept, text_of}
use Rattle.keep_run_spec.specs.Answers.{Asked, keep_this, at_fault, unless_other, asked_by, says, told_by, told_by_room, told_to, kept_after, left_by, left_by_room, has_room, with_update, asked_of, told_line}
use Rattle.keep_run_spec.specs.Ends.{between}
use Rattle.keep_run_spec.specs.Output.{full_line}
use Rattle.keep_run_spec.proofs.GoesOn.{calm_count}
use Rattle.keep_run.specs.Lines.{AskedTold, LineTold}
use Rattle.keep_run.proofs.Faults.{line_faulty}

-- ---- by what the line reads as

module _ (keep : Kept) (number : ℕ) (line text : List ℕ) where
  -- a line that asks for nothing
  pub blank_told : command_of number line ≡ Ok blank → text ≡ [] → AskedTold keep number (asked_of keep number line) text keep
  blank_told reads text_is = record {
    text_is = text_is ∙ sym (ap (λ r. told_line number (told_to keep (asked_by keep.name r))) reads);
    left = sym (ap (λ r. kept_after keep (asked_by keep.name r)) reads);
  }

  -- one that asks for what is not known here
  pub other_told : asked_of keep number line ≡ at_fault (BadCommand Cmd) → text ≡ bad_line number (BadCommand Cmd)
      → AskedTold keep number (asked_of keep number line) text keep
  other_told asks text_is = record {
    text_is = text_is ∙ sym (ap (λ a. told_line number (told_to keep a)) asks);
    left = sym (ap (kept_after keep) asks);
  }

  -- an update that is none of the extension's dynamic ones
  pub foreign_told : (u : Update) → command_of number line ≡ Ok (update u) → dynamic_of keep.name u ≡ None → text ≡ bad_line number (BadCommand Cmd)
      → AskedTold keep number (asked_of keep number line) text keep
  foreign_told u reads foreign text_is = other_told (ap (asked_by keep.name) reads ∙ ap unless_other foreign) text_is

  -- one that is
  pub own_told : (u : Update) (next : Kept) → command_of number line ≡ Ok (update u) → dynamic_of keep.name u ≡ Some u
      → AskedTold keep number (keep_this u) text next → AskedTold keep number (asked_of keep number line) text next
  own_told u next reads own told =
      subst (λ (a : Asked). AskedTold keep number a text next) (sym (ap (asked_by keep.name) reads ∙ ap unless_other own)) told

  pub asked_told : (next : Kept) (was is : ℕ) → was ≤ is → AskedTold keep number (asked_of keep number line) text next
      → LineTold (between was is) keep number line text next
  asked_told next was is later told = record {
    told = told_to keep (asked_of keep number line);
    says = inl (record { same = refl; left = told.left });
    text_is = told.text_is;
    rises = subst (λ (n : ℕ). RisesBy n (between was is)) (sym (calm_count keep (asked_of keep number line))) (omega (arith, later));
  }

  by_fault : (fault : LineFault) (was is : ℕ) → was ≤ is → (Rose was is × StopsInLine line fault) ⊎ (command_of number line ≡ Err fault) → text ≡ bad_line number fault
      → LineTold (between was is) keep number line text keep
  by_fault fault was is later (inl stops) text_is = record {
    told = says (stopped fault);
    says = inr (record { fault = fault; stops = stops.1; same = refl; stays = refl });
    text_is = text_is;
    rises = stops.0;
  }
  by_fault fault was is later (inr reads) text_is = record {
    told = says (bad fault);
    says = inl (record {
      same = sym (ap (λ r. told_to keep (asked_by keep.name r)) reads);
      left = sym (ap (λ r. kept_after keep (asked_by keep.name r)) reads);
    });
    text_is = text_is;
    rises = omega (arith, later);
  }

  -- a line that is at fault
  pub fault_told : (fault : LineFault) (was is : ℕ) → was ≤ is → fault ≢ NoMemory → IsFaultOfLine number line (Rose was is) fault → text ≡ bad_line number fault
      → LineTold (between was is) keep number line text keep
  fault_told fault was is later named why text_is = by_fault fault was is later (line_faulty number line (Rose was is) fault named why) text_is

-- ---- updates

true_if : (b : Bool) (v : Update) → cond b (Some v) None ≡ Some v → b ≡ true
true_if true v e = refl
true_if false v e = absurd (cc e)

pub may_be_kept : ReadUpdatesMayBeKept → (number : ℕ) (line name : List ℕ) (u : Update) → command_of number line ≡ Ok (update u) → dynamic_of name u ≡ Some u → MayBeKept name u
may_be_kept law number line name (dynamic extension remove add) reads own =
    let same : extension ≡ name = (bytes_eq-Decides extension name).0 (true_if (bytes_eq extension name) (dynamic extension remove add) own) in
    subst (λ (n : List ℕ). MayBeKept n (dynamic extension remove add)) same (law number line extension remove add reads)
may_be_kept law number line name (session extension remove add) reads own = absurd (cc own)
may_be_kept law number line name (rulesets extension disable enable) reads own = absurd (cc own)
may_be_kept law number line name (static extension set disable enable) reads own = absurd (cc own)
may_be_kept law number line name (install new) reads own = absurd (cc own)
may_be_kept law number line name (uninstall extension) reads own = absurd (cc own)

module _ (keep : Kept) (number : ℕ) (u : Update) (text : List ℕ) where
  pub refused_told : (refusal : Refusal) → judge_update (state_of keep.name keep.list) u ≡ Some refusal → text ≡ refused_line number refusal
      → AskedTold keep number (keep_this u) text keep
  refused_told refusal judged text_is = record {
    text_is = text_is ∙ sym (ap (λ j. told_line number (told_by keep u j)) judged);
    left = sym (ap (left_by keep u) judged);
  }

  room_if : (b : Bool) → nat_le (keep.place + 6 + length (text_of u)) max_file ≡ b → ((max_file < keep.place + 6 + length (text_of u)) → ⊥) → b ≡ true
  room_if true is fits = refl
  room_if false is fits = absurd (fits (grind (arith, nat_tests, is)))

  pub roomy : ((max_file < keep.place + 6 + length (text_of u)) → ⊥) → has_room keep u ≡ true
  roomy fits = room_if (has_room keep u) refl fits

  pub not_roomy : max_file < keep.place + 6 + length (text_of u) → has_room keep u ≡ false
  not_roomy beyond = grind (arith, nat_tests, beyond)

  pub full_told : judge_update (state_of keep.name keep.list) u ≡ None → has_room keep u ≡ false → text ≡ full_line number
      → AskedTold keep number (keep_this u) text keep
  full_told judged full text_is = record {
    text_is = text_is ∙ sym (ap (λ j. told_line number (told_by keep u j)) judged ∙ ap (λ b. told_line number (told_by_room keep u b)) full);
    left = sym (ap (left_by keep u) judged ∙ ap (left_by_room keep u) full);
  }

  pub accepted_told : (next : Kept) (count : ℕ) → judge_update (state_of keep.name keep.list) u ≡ None → has_room keep u ≡ true → next ≡ with_update keep u
      → count ≡ (state_of next.name next.list).count → text ≡ accepted_line number count → AskedTold keep number (keep_this u) text next
  accepted_told next count judged room next_is counted text_is =
      let all : count ≡ (after (state_of keep.name keep.list) (one u)).count =
      counted ∙ ap (λ (k : Kept). (state_of k.name k.list).count) next_is ∙ ap (λ s. s.count) (state_push keep.name keep.list u) in
      record {
        text_is = text_is ∙ ap (accepted_line number) all
            ∙ sym (ap (λ j. told_line number (told_by keep u j)) judged ∙ ap (λ b. told_line number (told_by_room keep u b)) room);
        left = next_is ∙ sym (ap (left_by keep u) judged ∙ ap (left_by_room keep u) room);
      }

pub one_more : (keep next : Kept) (u : Update) → next.name ≡ keep.name → next.list ≡ keep.list ++ u ∷ [] → next.place ≡ keep.place + 5 + length (text_of u)
    → next.live ≡ keep.live → next ≡ with_update keep u
one_more keep next u name list place live = λ i. record { name = name i; list = list i; place = place i; live = live i }
