-- Lines that are answered, and lines behind them.
use Rattle.std.proofs.Common.{◌≡◌, ℕ, zero, suc, ◌+◌, List, [], ◌∷◌, ◌++◌, length, count_by, Bool, true, false, cond, Option, Some, None, refl, sym, ap, ◌∙◌, inl, subst, arith, append_assoc}
use Rattle.std.proofs.lemmas.List.Sums.{sum_by-append}
use Rattle.dnr_base.specs.Faults.{Count}
use Rattle.update_spec.specs.declared.refusal.Refusal.{Refusal}
use Rattle.update_spec.specs.Update.{Update}
use Rattle.update_spec.specs.Judge.{judge_update}
use Rattle.session_spec.specs.Answers.{RisesBy}
use Rattle.keep_spec.specs.Kept.{Kept, state_of}
use Rattle.keep_run_spec.specs.Output.{kept_line}
use Rattle.keep_run_spec.specs.Answers.{Asked, nothing_more, keep_this, at_fault, Told, says, is_full, has_room, told_by_room, told_by, told_to, kept_after, asked_of, LineSays, FirstAndRest, LinesSay, told_line, told_text, is_host_fault, count_host_faults, Answered}
use Rattle.keep_run_spec.specs.Laws.{AnswersGoOn}

-- ---- lines behind others

pub said_after : (keep middle last : Kept) (number : ℕ) (lines later : List (List ℕ)) (told more : List Told) → LinesSay keep number lines told middle
    → LinesSay middle (number + length lines) later more last → LinesSay keep number (lines ++ later) (told ++ more) last
said_after keep middle last number [] later told more first rest =
    let place : number + 0 ≡ number = omega arith in
    let here : LinesSay middle number later more last = subst (λ (n : ℕ). LinesSay middle n later more last) place rest in
    let from : LinesSay keep number later more last = subst (λ (k : Kept). LinesSay k number later more last) first.1 here in
    subst (λ (t : List Told). LinesSay keep number later (t ++ more) last) (sym first.0) from
said_after keep middle last number (line ∷ lines) later told more first rest =
    let place : number + length (line ∷ lines) ≡ (number + 1) + length lines = omega arith in
    record {
      head = first.head;
      next = first.next;
      others = first.others ++ more;
      all = ap (λ t. t ++ more) first.all;
      first = first.first;
      rest = said_after first.next middle last (number + 1) lines later first.others more first.rest
          (subst (λ (n : ℕ). LinesSay middle n later more last) place rest);
    }

pub one_said : (keep next : Kept) (number : ℕ) (line : List ℕ) (told : Told) → LineSays keep number line told next → LinesSay keep number (line ∷ []) (told ∷ []) next
one_said keep next number line told is = record { head = told; next = next; others = []; all = refl; first = is; rest = (refl, refl) }

pub as_many : (keep last : Kept) (number : ℕ) (lines : List (List ℕ)) (told : List Told) → LinesSay keep number lines told last → length told ≡ length lines
as_many keep last number [] told are = ap length are.0
as_many keep last number (line ∷ lines) told are =
    ap length are.all ∙ ap suc (as_many are.next last (number + 1) lines are.others are.rest)

pub text_after : (number : ℕ) (told more : List Told) → told_text number (told ++ more) ≡ told_text number told ++ told_text (number + length told) more
text_after number [] more = let place : number ≡ number + 0 = omega arith in ap (λ n. told_text n more) place
text_after number (one ∷ told) more =
    let place : (number + 1) + length told ≡ number + length (one ∷ told) = omega arith in
    ap (λ t. told_line number one ++ t) (text_after (number + 1) told more)
    ∙ sym (append_assoc (told_line number one) (told_text (number + 1) told) (told_text ((number + 1) + length told) more))
    ∙ ap (λ n. told_text number (one ∷ told) ++ told_text n more) place

pub faults_after : (told more : List Told) → count_host_faults (told ++ more) ≡ count_host_faults told + count_host_faults more
faults_after told more = sum_by-append _ told more

-- ---- a line is told what it asks for, and no host need fail

calm_by_room : (keep : Kept) (u : Update) (room : Bool) → is_host_fault (told_by_room keep u room) ≡ false
calm_by_room keep u true = refl
calm_by_room keep u false = refl

calm_by : (keep : Kept) (u : Update) (judged : Option Refusal) → is_host_fault (told_by keep u judged) ≡ false
calm_by keep u None = calm_by_room keep u (has_room keep u)
calm_by keep u (Some refusal) = refl

pub calm_told : (keep : Kept) (asked : Asked) → is_host_fault (told_to keep asked) ≡ false
calm_told keep nothing_more = refl
calm_told keep (keep_this u) = calm_by keep u (judge_update (state_of keep.name keep.list) u)
calm_told keep (at_fault fault) = refl

-- what lines say where no host fails
pub record Said (keep : Kept) (number : ℕ) (lines : List (List ℕ)) : Type 0 where
  pub told : List Told
  pub last : Kept
  pub says : LinesSay keep number lines told last
  pub calm : count_host_faults told ≡ 0

pub calm_count : (keep : Kept) (asked : Asked) → count_host_faults (told_to keep asked ∷ []) ≡ 0
calm_count keep asked = ap (λ b. 0 + cond b 1 0) (calm_told keep asked)

said_calmly : (keep : Kept) (number : ℕ) (lines : List (List ℕ)) → Said keep number lines
said_calmly keep number [] = record { told = []; last = keep; says = (refl, refl); calm = refl }
said_calmly keep number (line ∷ lines) =
    let asked = asked_of keep number line in
    let rest = said_calmly (kept_after keep asked) (number + 1) lines in
    record {
      told = told_to keep asked ∷ rest.told;
      last = rest.last;
      says = record {
        head = told_to keep asked;
        next = kept_after keep asked;
        others = rest.told;
        all = refl;
        first = inl (record { same = refl; left = refl });
        rest = rest.says;
      };
      calm = omega (arith, faults_after (told_to keep asked ∷ []) rest.told, calm_count keep asked, rest.calm);
    }

pub answers_go_on : AnswersGoOn
answers_go_on host first lines later last text answered =
    let more = said_calmly last (1 + length lines) later in
    let told = answered.told ++ more.told in
    let many : length answered.told ≡ length lines = as_many first last 1 lines answered.told answered.says in
    let times : count_host_faults told ≡ count_host_faults answered.told = omega (arith, faults_after answered.told more.told, more.calm) in (
      told_text (1 + length answered.told) more.told,
      more.last,
      record {
        told = told;
        says = said_after first last more.last 1 lines later answered.told more.told answered.says more.says;
        text_is = ap (λ t. t ++ told_text (1 + length answered.told) more.told) answered.text_is
            ∙ append_assoc (kept_line (length first.list)) (told_text 1 answered.told) (told_text (1 + length answered.told) more.told)
            ∙ ap (λ t. kept_line (length first.list) ++ t) (sym (text_after 1 answered.told more.told));
        rises = subst (λ (n : ℕ). RisesBy n host) (sym times) answered.rises;
      },
    )
