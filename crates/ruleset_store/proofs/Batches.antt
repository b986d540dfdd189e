-- Updates that are made one after another, and the first that is refused.
use Rattle.std.proofs.Common.{◌≡◌, ℕ, ◌+◌, ◌<◌, ◌≤◌, List, [], ◌∷◌, Option, None, Ok, sym, ap, ◌∙◌, subst, fold, drop, length, get_or, arith}
use Rattle.std.proofs.lemmas.List.{drop_more, drop_all}
use Rattle.rule_spec.specs.State.{State}
use Rattle.update_spec.specs.declared.refusal.Refusal.{Refusal}
use Rattle.update_spec.specs.declared.refusal.Refusal.TheVariants as refusal
use Rattle.update_spec.specs.Update.{NewExtension, Update, install, changed}
use Rattle.update_spec.specs.Judge.{judge_update, max_updates}
use Rattle.update_spec.specs.Entries.{changed_unless, install_one, judge_from, refused_at}
use Rattle.ruleset_store.specs.Seen.{IsMade, IsRefusalOf, IsRefusalAt, update_seen, updates_seen}
use Rattle.ruleset_store.specs.declared.update.Update as seen

pub judge_goes : (place : ℕ) (now next : State) (update : Update) (rest : List Update) → IsMade now update next
    → judge_from place now (update ∷ rest) ≡ judge_from (place + 1) next rest
judge_goes place now next update rest made =
    ap (λ judged. refused_at place judged (judge_from (place + 1) (changed now update) rest)) made.judged
    ∙ ap (λ state. judge_from (place + 1) state rest) (sym made.changed)

pub change_goes : (now next : State) (update : Update) (rest : List Update) → IsMade now update next
    → fold changed now (update ∷ rest) ≡ fold changed next rest
change_goes now next update rest made = ap (λ state. fold changed state rest) (sym made.changed)

stops_at : (judged : Option Refusal) (later : Option (ℕ × Refusal)) (place : ℕ) (r : Refusal) → IsRefusalOf judged r → IsRefusalAt (refused_at place judged later) place r
stops_at judged later place (refusal.NoExtension name) is = ap (λ j. refused_at place j later) is
stops_at judged later place (refusal.ExtensionThere name) is = ap (λ j. refused_at place j later) is
stops_at judged later place (refusal.NoRuleset id) is = ap (λ j. refused_at place j later) is
stops_at judged later place (refusal.DuplicateId id) is = ap (λ j. refused_at place j later) is
stops_at judged later place (refusal.NoStaticRule id) is = ap (λ j. refused_at place j later) is
stops_at judged later place (refusal.BothLists id) is = ap (λ j. refused_at place j later) is
stops_at judged later place (refusal.ExtensionLimit count) is = ap (λ j. refused_at place j later) is
stops_at judged later place (refusal.RulesetLimit count) is = ap (λ j. refused_at place j later) is
stops_at judged later place (refusal.RulesLimit count) is = ap (λ j. refused_at place j later) is
stops_at judged later place (refusal.EnabledLimit count) is = ap (λ j. refused_at place j later) is
stops_at judged later place (refusal.PoolLimit count) is = ap (λ j. refused_at place j later) is
stops_at judged later place (refusal.DynamicLimit count) is = ap (λ j. refused_at place j later) is
stops_at judged later place (refusal.UnsafeLimit count) is = ap (λ j. refused_at place j later) is
stops_at judged later place (refusal.SessionLimit count) is = ap (λ j. refused_at place j later) is
stops_at judged later place (refusal.RegexLimit count) is = ap (λ j. refused_at place j later) is
stops_at judged later place (refusal.DisabledLimit count) is = ap (λ j. refused_at place j later) is
stops_at judged later place (refusal.TooManyUpdates count) is = ap (λ j. refused_at place j later) is
stops_at judged later place refusal.NoMemory is = tt

pub judge_stops : (place : ℕ) (now : State) (update : Update) (rest : List Update) (r : Refusal) → IsRefusalOf (judge_update now update) r
    → IsRefusalAt (judge_from place now (update ∷ rest)) place r
judge_stops place now update rest r is = stops_at (judge_update now update) (judge_from (place + 1) (changed now update) rest) place r is

-- an extension that is installed before any update
pub is_installed : (now next : State) (new : NewExtension) → IsMade now (install new) next → install_one now new ≡ Ok next
is_installed now next new made =
    ap (λ judged. changed_unless judged now new) made.judged ∙ ap (λ state. Ok state) (sym made.changed)

-- ---- updates up to a place

-- what is left to judge and to change after the updates before this place
pub record IsDoneTo (first : State) (updates : List seen.Update) (place : ℕ) (now : State) : Type 0 where
  pub judged : judge_from 0 first (updates_seen updates) ≡ judge_from place now (updates_seen (drop place updates))
  pub made : fold changed first (updates_seen updates) ≡ fold changed now (updates_seen (drop place updates))
  pub fits : 0 < place → now.count < max_updates

seen_more : (updates : List seen.Update) (place : ℕ) (update : seen.Update) → place < length updates → update ≡ get_or updates place update
    → updates_seen (drop place updates) ≡ update_seen update ∷ updates_seen (drop (place + 1) updates)
seen_more updates place update lt is =
    ap updates_seen (drop_more updates place update lt) ∙ ap (λ u. update_seen u ∷ updates_seen (drop (place + 1) updates)) (sym is)

seen_end : (updates : List seen.Update) (place : ℕ) → length updates ≤ place → updates_seen (drop place updates) ≡ []
seen_end updates place le = ap updates_seen (drop_all place updates le)

pub done_first : (first now : State) (updates : List seen.Update) → now ≡ first → IsDoneTo first updates 0 now
done_first first now updates same = record {
  judged = ap (λ state. judge_from 0 state (updates_seen updates)) (sym same);
  made = ap (λ state. fold changed state (updates_seen updates)) (sym same);
  fits = λ lt. absurd (omega (arith, lt));
}

pub done_more : (first now next : State) (updates : List seen.Update) (place : ℕ) (update : seen.Update) → place < length updates → update ≡ get_or updates place update
    → IsDoneTo first updates place now → IsMade now (update_seen update) next → now.count < max_updates → IsDoneTo first updates (place + 1) next
done_more first now next updates place update lt is done made fits =
    let u = update_seen update in
    let rest = updates_seen (drop (place + 1) updates) in
    let more = seen_more updates place update lt is in
    record {
      judged = done.judged ∙ ap (judge_from place now) more ∙ judge_goes place now next u rest made;
      made = done.made ∙ ap (fold changed now) more ∙ change_goes now next u rest made;
      fits = λ _. subst (λ (state : State). state.count < max_updates) (sym made.changed) fits;
    }

pub done_stop : (first now : State) (updates : List seen.Update) (place : ℕ) (update : seen.Update) (r : Refusal) → place < length updates → update ≡ get_or updates place update
    → IsDoneTo first updates place now → IsRefusalOf (judge_update now (update_seen update)) r → IsRefusalAt (judge_from 0 first (updates_seen updates)) place r
done_stop first now updates place update r lt is done refused =
    let u = update_seen update in
    let rest = updates_seen (drop (place + 1) updates) in
    let whole = done.judged ∙ ap (judge_from place now) (seen_more updates place update lt is) in
    subst (λ (judged : Option (ℕ × Refusal)). IsRefusalAt judged place r) (sym whole) (judge_stops place now u rest r refused)

pub done_judged : (first now : State) (updates : List seen.Update) (place : ℕ) → length updates ≤ place → IsDoneTo first updates place now
    → judge_from 0 first (updates_seen updates) ≡ None
done_judged first now updates place le done = done.judged ∙ ap (judge_from place now) (seen_end updates place le)

pub done_made : (first now : State) (updates : List seen.Update) (place : ℕ) → length updates ≤ place → IsDoneTo first updates place now
    → now ≡ fold changed first (updates_seen updates)
done_made first now updates place le done = sym (done.made ∙ ap (fold changed now) (seen_end updates place le))
