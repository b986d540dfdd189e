-- Dynamic updates that are alike are judged alike after lists that are alike.
use Rattle.std.proofs.Common.{◌≡◌, ℕ, List, [], ◌∷◌, map, length, count_by, true, ◌&&◌, not, None, refl, sym, ap, ◌∙◌}
use Rattle.std.specs.List.{list_all}
use Rattle.std.proofs.lemmas.Bool.{and_parts}
use Rattle.rule_spec.specs.Rule.{Rule}
use Rattle.rule_spec.specs.State.{State}
use Rattle.written_laws.specs.Normal.{normal}
use Rattle.written_laws.specs.Alike.{normal_state, NormalRulesStay}
use Rattle.update_spec.specs.declared.refusal.Refusal.TheVariants.{NoExtension, DynamicLimit, UnsafeLimit, RegexLimit}
use Rattle.update_spec.specs.Update.{Update, dynamic, session, rulesets, static, install, uninstall, updated, counted}
use Rattle.update_spec.specs.Judge.{judge_update, first_refusal, refused_if, too_many_updates, first_duplicate, limited, count_unsafe, uses_regex}
use Rattle.update_spec.specs.Entries.{one, after, replay}
use Rattle.keep_spec.specs.Kept.{start, state_of}
use Rattle.keep_spec.specs.Agrees.{normal_update, AreAlike}
use Rattle.keep_laws.specs.Laws.{is_dynamic, AreDynamic, AlikeUpdatesAreJudgedAlike}
use Rattle.keep_laws.proofs.Normal.{duplicate-normal, there-normal, test-normal, dynamic-limit, unsafe-limit, regex-limit, changed-normal}

-- ---- one update

module _ (name remove : List ℕ) (add : List Rule) (state : State) where
  abbrev first : Update
  first = dynamic name remove add

  abbrev second : Update
  second = dynamic name remove (map normal add)

  judged-normal : judge_update (normal_state state) second ≡ judge_update state first
  unfolding judge_update
  judged-normal =
      let all = state.extensions in
      let there = there-normal name all in
      let duplicate = test-normal name all (λ e. first_duplicate remove (map normal add) e.dynamic) (λ e. first_duplicate remove add e.dynamic)
      (λ e. duplicate-normal remove add e.dynamic) in
      let many = test-normal name all (λ e. limited 30000 DynamicLimit (length (updated second e).dynamic))
      (λ e. limited 30000 DynamicLimit (length (updated first e).dynamic)) (dynamic-limit name remove add) in
      let unsafe = test-normal name all (λ e. limited 5000 UnsafeLimit (count_unsafe (updated second e).dynamic))
      (λ e. limited 5000 UnsafeLimit (count_unsafe (updated first e).dynamic)) (unsafe-limit name remove add) in
      let patterns = test-normal name all (λ e. limited 1000 RegexLimit (count_by uses_regex (updated second e).dynamic))
      (λ e. limited 1000 RegexLimit (count_by uses_regex (updated first e).dynamic)) (regex-limit name remove add) in
      λ i. first_refusal (
      refused_if (not (there i)) (NoExtension name)
      ∷ None
      ∷ None
      ∷ duplicate i
      ∷ None
      ∷ None
      ∷ None
      ∷ None
      ∷ None
      ∷ None
      ∷ None
      ∷ many i
      ∷ unsafe i
      ∷ None
      ∷ patterns i
      ∷ None
      ∷ too_many_updates state
      ∷ []
      )

pub judged_normal : (state : State) (update : Update) → is_dynamic update ≡ true → judge_update (normal_state state) (normal_update update) ≡ judge_update state update
judged_normal state (dynamic name remove add) is = judged-normal name remove add state
judged_normal state (session name remove add) is = absurd (cc is)
judged_normal state (rulesets name disable enable) is = absurd (cc is)
judged_normal state (static name set disable enable) is = absurd (cc is)
judged_normal state (install new) is = absurd (cc is)
judged_normal state (uninstall name) is = absurd (cc is)

after_normal : (state : State) (update : Update) → is_dynamic update ≡ true → after (normal_state state) (one (normal_update update)) ≡ normal_state (after state (one update))
after_normal state (dynamic name remove add) is = ap counted (changed-normal name remove add state)
after_normal state (session name remove add) is = absurd (cc is)
after_normal state (rulesets name disable enable) is = absurd (cc is)
after_normal state (static name set disable enable) is = absurd (cc is)
after_normal state (install new) is = absurd (cc is)
after_normal state (uninstall name) is = absurd (cc is)

-- ---- lists of updates

replay_normal : (list : List Update) (state : State) → AreDynamic list → replay (normal_state state) (map one (map normal_update list)) ≡ normal_state (replay state (map one list))
replay_normal [] state are = refl
replay_normal (update ∷ list) state are =
    let parts = and_parts (is_dynamic update) (list_all is_dynamic list) are in
    ap (λ s. replay s (map one (map normal_update list))) (after_normal state update parts.0) ∙ replay_normal list (after state (one update)) parts.1

pub state_normal : (name : List ℕ) (list : List Update) → AreDynamic list → state_of name (map normal_update list) ≡ normal_state (state_of name list)
state_normal name list are = replay_normal list (start name) are

pub alike_states : (name : List ℕ) (list other : List Update) → AreDynamic list → AreDynamic other → AreAlike other list → normal_state (state_of name other) ≡ normal_state (state_of name list)
alike_states name list other are also alike = sym (state_normal name other also) ∙ ap (state_of name) alike ∙ state_normal name list are

again : NormalRulesStay → (rules : List Rule) → map normal (map normal rules) ≡ map normal rules
again stay [] = refl
again stay (rule ∷ rules) = λ i. stay rule i ∷ again stay rules i

pub normal_again : NormalRulesStay → (update : Update) → normal_update (normal_update update) ≡ normal_update update
normal_again stay (dynamic name remove add) = ap (dynamic name remove) (again stay add)
normal_again stay (session name remove add) = ap (session name remove) (again stay add)
normal_again stay (rulesets name disable enable) = refl
normal_again stay (static name set disable enable) = refl
normal_again stay (install new) = refl
normal_again stay (uninstall name) = refl

still_dynamic : (update : Update) → is_dynamic (normal_update update) ≡ is_dynamic update
still_dynamic (dynamic name remove add) = refl
still_dynamic (session name remove add) = refl
still_dynamic (rulesets name disable enable) = refl
still_dynamic (static name set disable enable) = refl
still_dynamic (install new) = refl
still_dynamic (uninstall name) = refl

pub judged_alike : NormalRulesStay → AlikeUpdatesAreJudgedAlike
judged_alike stay name list other update are also is alike =
    sym (judged_normal (state_of name other) (normal_update update) (still_dynamic update ∙ is))
    ∙ ap (judge_update (normal_state (state_of name other))) (normal_again stay update)
    ∙ ap (λ s. judge_update s (normal_update update)) (alike_states name list other are also alike)
    ∙ judged_normal (state_of name list) update is

dynamic_normal : (list : List Update) → list_all is_dynamic (map normal_update list) ≡ list_all is_dynamic list
dynamic_normal [] = refl
dynamic_normal (update ∷ list) = λ i. still_dynamic update i && dynamic_normal list i

-- a list that is alike one of dynamic updates is one
pub alike_dynamic : (list other : List Update) → AreDynamic list → AreAlike other list → AreDynamic other
alike_dynamic list other are alike = sym (dynamic_normal other) ∙ ap (list_all is_dynamic) alike ∙ dynamic_normal list ∙ are
