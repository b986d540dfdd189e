-- Rules that allow all requests list frames when they are written.
use Rattle.std.proofs.Common.{◌≡◌, ◌<◌, List, [], ◌∷◌, length, filter, Bool, true, false, cond, not, ◌&&◌, ◌||◌, Some, None, Ok, refl, sym, ap, ◌∙◌, arith}
use Rattle.std.specs.Prelude.{nat_le}
use Rattle.std.specs.List.{list_all}
use Rattle.std.proofs.lemmas.Bool.{false≢true}
use Rattle.dnr_base.specs.declared.kind.Kind.{Kind}
use Rattle.dnr_base.specs.Kind.{all_kinds, has_kind, same_kind}
use Rattle.rule_spec.specs.declared.rule_refusal.RuleRefusal.TheVariants.{AllowAllTypes}
use Rattle.rule_spec.specs.Rule.{Condition, Action, block, redirect, allow, upgrade_scheme, modify_headers, allow_all_requests}
use Rattle.rule_spec.specs.IsRule.{is_frame_kind, are_frame_kinds, IsAction}
use Rattle.json_spec.specs.RuleFields.{refused_if, unless_refused, kind_set}
use Rattle.json_spec.specs.Written.{are_default, type_name, action_written}
use Rattle.json_spec.specs.ReadRule.{gives_frames, is_allow_all, frames_in}
use Rattle.written_laws.proofs.Sets.{both, all_more}
use Rattle.written_laws.proofs.TypeSets.{one_kind, same_kind-itself, has_kind-set, default_set}
use Rattle.written_laws.proofs.Fields.{given_list, listed_kinds, fields_kept}
use Rattle.written_laws.proofs.Actions.{type_read}

frame_there : (kinds : List Kind) (k : Kind) → list_all is_frame_kind kinds ≡ true → has_kind kinds k ≡ true → is_frame_kind k ≡ true
frame_there [] k h is = cc
frame_there (other ∷ kinds) k h is = by (same_kind k other) refl (frame_there kinds k (both (is_frame_kind other) (list_all is_frame_kind kinds) h).1)
  where
    by : (b : Bool) → same_kind k other ≡ b → (has_kind kinds k ≡ true → is_frame_kind k ≡ true) → is_frame_kind k ≡ true
    by true same rest = ap is_frame_kind (one_kind k other same) ∙ (both (is_frame_kind other) (list_all is_frame_kind kinds) h).0
    by false same rest = rest (sym (ap (λ b. b || has_kind kinds k) same) ∙ is)

filtered-all : {X : Type 0} (test passes : X → Bool) → ((x : X) → test x ≡ true → passes x ≡ true) → (list : List X) → list_all passes (filter test list) ≡ true
filtered-all test passes p [] = refl
filtered-all test passes p (x ∷ list) = by (test x) refl (filtered-all test passes p list)
  where
    by : (b : Bool) → test x ≡ b → list_all passes (filter test list) ≡ true → list_all passes (cond b (x ∷ filter test list) (filter test list)) ≡ true
    by true is rest = all_more (passes x) (list_all passes (filter test list)) (p x is) rest
    by false is rest = rest

some_there : (list : List Kind) (k : Kind) → has_kind list k ≡ true → 0 < length list
some_there [] k h = cc
some_there (first ∷ list) k h = omega arith

set_some : (kinds : List Kind) → nat_le 1 (length kinds) ≡ true → 0 < length (kind_set kinds)
set_some [] h = cc
set_some (k ∷ kinds) h = some_there (kind_set (k ∷ kinds)) k (has_kind-set (k ∷ kinds) k ∙ ap (λ b. b || has_kind kinds k) (same_kind-itself k))

given-frames : (b : Bool) (kinds : List Kind) → b ≡ false → 0 < length kinds → list_all is_frame_kind kinds ≡ true → gives_frames (cond b None (given_list kinds)) ≡ true
given-frames true kinds is some h = cc
given-frames false [] is some h = absurd (omega arith)
given-frames false (k ∷ kinds) is some h = h

frames-given : (kinds : List Kind) → are_frame_kinds kinds ≡ true → gives_frames (listed_kinds kinds) ≡ true
frames-given kinds h =
    let p = both (nat_le 1 (length kinds)) (list_all is_frame_kind kinds) h in
    let frames : list_all is_frame_kind (kind_set kinds) ≡ true = filtered-all (has_kind kinds) is_frame_kind (λ k is. frame_there kinds k p.1 is) all_kinds in
    given-frames (are_default kinds) (kind_set kinds) (other (are_default kinds) refl frames) (set_some kinds p.0) frames
  where
    other : (b : Bool) → are_default kinds ≡ b → list_all is_frame_kind (kind_set kinds) ≡ true → b ≡ false
    other true is frames = absurd (false≢true (ap (list_all is_frame_kind) (sym (default_set kinds is)) ∙ frames))
    other false is frames = refl

needless : (c : Condition) (action : Action) → IsAction c action → (is_allow_all (Some (type_name action)) && not (gives_frames (listed_kinds c.kinds))) ≡ false
needless c block is = refl
needless c (redirect target) is = refl
needless c allow is = refl
needless c upgrade_scheme is = refl
needless c (modify_headers request response) is = refl
needless c allow_all_requests is = ap not (frames-given c.kinds is)

-- an action that needs frames has them
pub frames_pass : (c : Condition) (action : Action) → IsAction c action → frames_in (Some (action_written action)) (fields_kept c) ≡ Ok tt
unfolding frames_in
frames_pass c action is =
    (λ i. unless_refused (refused_if (is_allow_all (type_read action i) && not (gives_frames (listed_kinds c.kinds))) AllowAllTypes) tt)
    ∙ (λ i. unless_refused (refused_if (needless c action is i) AllowAllTypes) tt)
