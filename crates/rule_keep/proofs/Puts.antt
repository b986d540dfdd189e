-- What a crash leaves while an update is added.
use Rattle.std.proofs.Common.{◌≡◌, inl, inr, ⊎_elim, ℕ, ◌<◌, ◌≤◌, true, false, List, [], ◌∷◌, ◌++◌, map, filter_map, length, Some, None, is_none, Result, Ok, Err, is_err, OnOk, sym, ◌∙◌, ap, arith, refl, subst, append_assoc}
use Rattle.std.proofs.lemmas.Bool.{and_parts, and_from}
use Rattle.std.proofs.lemmas.List.{map-append}
use Rattle.std.proofs.lemmas.List.Elements.{filter_map-append}
use Rattle.std.specs.List.{list_all, cons_option}
use Rattle.keep_disk.specs.Moments.{LeavesOnly}
use Rattle.keep_disk.proofs.Moments.{weakened}
use Rattle.rule_spec.specs.Rule.{Rule}
use Rattle.rule_spec.specs.IsRule.{is_number}
use Rattle.rule_spec.specs.State.{State}
use Rattle.written_laws.specs.Read.{IdsDiffer}
use Rattle.update_spec.specs.Update.{Update, dynamic}
use Rattle.update_spec.specs.Judge.{judge_update}
use Rattle.update_spec.specs.Entries.{one, after}
use Rattle.ruleset_store.specs.declared.update.Update as held
use Rattle.ruleset_store.specs.Seen.{update_seen, updates_seen}
use Rattle.keep_records.specs.Records.{payloads}
use Rattle.keep_records.specs.Ends.{AllEnd, MayAdd, Adds}
use Rattle.keep_spec.specs.Kept.{Kept, update_at, kept, state_of, accepts}
use Rattle.keep_spec.specs.Agrees.{normal_update, AreAlike, HasList, Agrees, HasBeforeOrAfter, IsSound, Sound}
use Rattle.keep_spec.specs.Written.{update_written, payload_text, text_of, are_tabless, MayBeKept}
use Rattle.keep_laws.specs.Laws.{is_dynamic, AreDynamic, NormalUpdatesStay, AlikeUpdatesAreJudgedAlike}
use Rattle.keep_laws.proofs.Accepted.{are_dynamic, kept_is, state_push, sound_after}
use Rattle.rule_keep.proofs.Opens.{same_kept}

pub at_ok : {T E : Type 0} (r : Result T E) (P : Type 0) → is_err r ≡ false → OnOk r P → P
at_ok (Ok x) P not_err holds = holds
at_ok (Err e) P not_err holds = absurd (cc not_err)

-- ---- the text

some_text : (name remove : List ℕ) (add : List Rule) → 0 < length (payload_text name remove add)
unfolding update_written
some_text name remove add = omega arith

pub text_is_some : (name : List ℕ) (update : Update) → MayBeKept name update → 0 < length (text_of update)
text_is_some name update may = omega (arith, ap (λ (u : Update). length (text_of u)) may.is, some_text name may.remove may.add)

pub text_is : (name : List ℕ) (update : Update) (may : MayBeKept name update) → text_of update ≡ payload_text name may.remove may.add
text_is name update may = ap text_of may.is

-- the parts of an update that may be kept
pub record Parts (remove : List ℕ) (add : List Rule) : Type 0 where
  pub ids : list_all is_number remove ≡ true
  pub differ : IdsDiffer add
  pub tabless : are_tabless add ≡ true

pub parts : (name extension remove : List ℕ) (add : List Rule) (update : Update) → MayBeKept name update → update ≡ dynamic extension remove add → Parts remove add
parts name extension remove add update may is =
    let same : dynamic name may.remove may.add ≡ dynamic extension remove add = sym may.is ∙ is in
    let remove_is : may.remove ≡ remove = cc same in
    let add_is : may.add ≡ add = cc same in
    record {
      ids = subst (λ (l : List ℕ). list_all is_number l ≡ true) remove_is may.ids;
      differ = subst IdsDiffer add_is may.differ;
      tabless = subst (λ (l : List Rule). are_tabless l ≡ true) add_is may.tabless;
    }

-- ---- lists

grown_kept : (name image old payload : List ℕ) (v : Update) → update_at name payload ≡ Some v → payloads image ≡ payloads old ++ payload ∷ [] → kept name image ≡ kept name old ++ v ∷ []
unfolding kept
grown_kept name image old payload v is grown =
    ap (filter_map (update_at name)) grown ∙ filter_map-append (update_at name) (payloads old) (payload ∷ [])
    ∙ ap (λ o. filter_map (update_at name) (payloads old) ++ cons_option o []) is

module _ (name : List ℕ) (list : List Update) (update : Update) (payload : List ℕ) (stay : NormalUpdatesStay)
    (is : update_at name payload ≡ Some (normal_update update)) (old image : List ℕ) (alike : AreAlike (kept name old) list) where
  pub alike_before : payloads image ≡ payloads old → AreAlike (kept name image) list
  alike_before same = ap (map normal_update) (same_kept name image old same) ∙ alike

  pub alike_after : payloads image ≡ payloads old ++ payload ∷ [] → AreAlike (kept name image) (list ++ update ∷ [])
  alike_after grown =
      ap (map normal_update) (grown_kept name image old payload (normal_update update) is grown)
      ∙ map-append normal_update (kept name old) (normal_update update ∷ [])
      ∙ (λ i. alike i ++ stay update i ∷ [])
      ∙ sym (map-append normal_update list (update ∷ []))

-- ---- images

module _ (images : List ℕ → Type 0) (keep : Kept) (update : Update) (payload : List ℕ) (stay : NormalUpdatesStay)
    (is : update_at keep.name payload ≡ Some (normal_update update)) (agrees : Agrees images keep) where
  pub all_end : AllEnd images keep.place
  all_end image left = (agrees image left).ends

  pub before_or_after : (image : List ℕ) → MayAdd images payload image → HasBeforeOrAfter keep.name keep.list update image
  before_or_after image may =
      let alike = (agrees may.old may.was).alike in
      record {
        either = ⊎_elim (λ same. inl (alike_before keep.name keep.list update payload stay is may.old image alike same))
            (λ grown. inr (alike_after keep.name keep.list update payload stay is may.old image alike grown)) may.is.either;
        short = may.is.short;
      }

  pub has_after : (place : ℕ) (image : List ℕ) → Adds images place payload image → HasList keep.name (keep.list ++ update ∷ []) place image
  has_after place image adds =
      let has = adds.has in
      record {
        alike = alike_after keep.name keep.list update payload stay is adds.old image (agrees adds.old adds.was).alike has.list_is;
        ends = record { short = has.short; place_is = has.place_is; there = has.there; closed = has.closed };
      }

  pub sound_put : AlikeUpdatesAreJudgedAlike → AreDynamic keep.list → is_dynamic update ≡ true → judge_update (state_of keep.name keep.list) update ≡ None
      → Sound keep.name images → (image : List ℕ) → MayAdd images payload image → IsSound keep.name image
  sound_put law are changes accepted sound image may =
      let was = sound may.old may.was in
      let list_is = kept_is keep.name may.old was.list was.read in
      let alike : AreAlike was.list keep.list = ap (map normal_update) (sym list_is) ∙ (agrees may.old may.was).alike in
      let also = are_dynamic keep.name (payloads may.old) was.list was.read in
      let taken : accepts (state_of keep.name was.list) (normal_update update) ≡ true =
      ap is_none (law keep.name keep.list was.list update are also changes alike ∙ accepted) in
      sound_after keep.name may.old image payload (normal_update update) was is taken may.is

-- ---- a run

module _ {D : Type 0} (moment : D → ℕ) (left_since : D → ℕ → List ℕ → Type 0) (images : D → List ℕ → Type 0)
    (counts_now : (disk : D) (t : ℕ) (image : List ℕ) → t ≤ moment disk → images disk image → left_since disk t image)
    (old new : D) (keep : Kept) (update : Update) (payload : List ℕ) (stay : NormalUpdatesStay)
    (is : update_at keep.name payload ≡ Some (normal_update update)) (agrees : Agrees (images old) keep)
    (run : LeavesOnly moment left_since old new (MayAdd (images old) payload)) where
  pub leaves : LeavesOnly moment left_since old new (HasBeforeOrAfter keep.name keep.list update)
  leaves =
      weakened moment left_since old new (MayAdd (images old) payload) (HasBeforeOrAfter keep.name keep.list update) run
      (before_or_after (images old) keep update payload stay is agrees)

  added_now : (image : List ℕ) → images new image → MayAdd (images old) payload image
  added_now image left = run.each image (counts_now new (moment old) image run.later left)

  pub afterwards : (image : List ℕ) → images new image → HasBeforeOrAfter keep.name keep.list update image
  afterwards image left = before_or_after (images old) keep update payload stay is agrees image (added_now image left)

  pub stays_sound : AlikeUpdatesAreJudgedAlike → AreDynamic keep.list → is_dynamic update ≡ true → judge_update (state_of keep.name keep.list) update ≡ None
      → Sound keep.name (images old) → Sound keep.name (images new)
  stays_sound law are changes accepted sound image left =
      sound_put (images old) keep update payload stay is agrees law are changes accepted sound image (added_now image left)

-- ---- what the program holds

pub seen_push : (list new : List held.Update) (copy update : held.Update) → new ≡ list ++ copy ∷ [] → update_seen copy ≡ update_seen update
    → updates_seen new ≡ updates_seen list ++ update_seen update ∷ []
seen_push list new copy update is same =
    ap updates_seen is ∙ map-append update_seen list (copy ∷ []) ∙ ap (λ (u : Update). updates_seen list ++ u ∷ []) same

-- the same behind what a file held
pub added_push : (before : List Update) (list new : List held.Update) (copy update : held.Update) → new ≡ list ++ copy ∷ [] → update_seen copy ≡ update_seen update
    → before ++ updates_seen new ≡ (before ++ updates_seen list) ++ update_seen update ∷ []
added_push before list new copy update is same =
    ap (λ (l : List Update). before ++ l) (seen_push list new copy update is same) ∙ sym (append_assoc before (updates_seen list) (update_seen update ∷ []))

dynamic_push : (list : List Update) (update : Update) → AreDynamic list → is_dynamic update ≡ true → AreDynamic (list ++ update ∷ [])
dynamic_push [] update are is = and_from (is_dynamic update) true is refl
dynamic_push (first ∷ list) update are is =
    let parts = and_parts (is_dynamic first) (list_all is_dynamic list) are in
    and_from (is_dynamic first) (list_all is_dynamic (list ++ update ∷ [])) parts.0 (dynamic_push list update parts.1 is)

pub kept_push : (name : List ℕ) (list new : List Update) (update : Update) (store : State) → new ≡ list ++ update ∷ [] → store ≡ after (state_of name list) (one update)
    → AreDynamic list → is_dynamic update ≡ true → (store ≡ state_of name new) × AreDynamic new
kept_push name list new update store new_is store_is are is =
    (store_is ∙ sym (state_push name list update) ∙ ap (state_of name) (sym new_is), subst AreDynamic (sym new_is) (dynamic_push list update are is))

pub may_be_dynamic : (name : List ℕ) (update : Update) → MayBeKept name update → is_dynamic update ≡ true
may_be_dynamic name update may = ap is_dynamic may.is

-- the list with the update at its end agrees with what is left
pub agrees_after : (images left : List ℕ → Type 0) (keep : Kept) (update : Update) (payload : List ℕ) → NormalUpdatesStay
    → update_at keep.name payload ≡ Some (normal_update update) → Agrees images keep
    → (name : List ℕ) (list : List Update) (place : ℕ) → name ≡ keep.name → list ≡ keep.list ++ update ∷ []
    → ((image : List ℕ) → left image → Adds images place payload image) → (image : List ℕ) → left image → HasList name list place image
agrees_after images left keep update payload stay is agrees name list place name_is list_is adds image now =
    subst (λ (n : List ℕ). HasList n list place image) (sym name_is)
    (subst (λ (l : List Update). HasList keep.name l place image) (sym list_is)
    (has_after images keep update payload stay is agrees place image (adds image now)))
