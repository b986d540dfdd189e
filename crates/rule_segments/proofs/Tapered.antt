-- Segments that taper: they are few, and how one more comes before them.
use Rattle.std.proofs.Common.{◌≡◌, ℕ, ◌+◌, ◌<◌, ◌≤◌, List, [], ◌∷◌, ◌++◌, refl, sym, ap, ◌∙◌, subst, length, map, cond, take, drop, get_or, ◌||◌, Bool, arith, append-nil, length-append, length-take}
use Rattle.std.specs.Prelude.{◌==◌}
use Rattle.std.specs.List.{list_any}
use Rattle.std.proofs.lemmas.List.Folds.{list_any-append}
use Rattle.std.proofs.lemmas.Grind.{common_steps, flat_map-append}
use Rattle.std.proofs.lemmas.List.{length-map, take-append-drop, drop-append-le, get_or-take, get_or_append_left, append_assoc, take_more}
use Rattle.std.proofs.lemmas.List.Sums.{sum_by-cons, sum_by-append}
use Rattle.rule_spec.specs.Rule.{Rule, is_unsafe}
use Rattle.update_spec.specs.Judge.{has_id, uses_regex}
use Rattle.index_laws.specs.Segments as law
use Rattle.index_laws.proofs.Few.{segments_are_few}
use Rattle.rule_ids.specs.Counted.{counts_of, sum_of}
use Rattle.rule_segments.specs.Segments.{Segment, live_in, live_among, weight, IsAboveFrom, AreFew, AreHalfLive, AreTapered, IsAbove, IsHalfLive, LastIsAbove}

-- ---- they are few

live_sum : (segments : List Segment) → law.live_in (map weight segments) ≡ length (live_among segments)
live_sum [] = refl
live_sum (segment ∷ segments) =
    sum_by-cons (λ (s : law.Segment). s.live) (weight segment) (map weight segments)
    ∙ ap (λ n. length (live_in segment) + n) (live_sum segments)
    ∙ sym (length-append (live_in segment) (live_among segments))

pub tapered_are_few : (segments : List Segment) → AreTapered segments → AreFew segments
tapered_are_few segments taper =
    let long : length (map weight segments) ≡ length segments = simp length-map in
    rw (long, live_sum segments) at (segments_are_few (map weight segments) taper)

-- ---- one more before them

half : (one : Segment) → 0 < length (live_in one) → law.IsHalfLive (weight one)
half one some = record { some = some; half = omega arith }

tapered_cons : (one : Segment) (next : List Segment) → 0 < length (live_in one) → IsAbove (length (live_in one)) next → AreTapered next → AreTapered (one ∷ next)
tapered_cons one [] some above taper = half one some
tapered_cons one (first ∷ next) some above taper = (half one some, above, taper)

above_more : (a b : ℕ) (next : List Segment) → a ≤ b → IsAbove a next → IsAbove b next
above_more a b [] more above = tt
above_more a b (first ∷ next) more above = omega arith

above_none : (b : ℕ) (next : List Segment) → IsAbove 0 next → IsAbove b next
above_none b [] above = tt
above_none b (first ∷ next) above = absurd (omega arith)

pub nil_of : {X : Type 0} (xs : List X) → length xs ≡ 0 → xs ≡ []
nil_of [] none = refl
nil_of (x ∷ xs) none = absurd (omega arith)

-- one more behind them
pub live_push : (segments : List Segment) (one : Segment) → live_among (segments ++ one ∷ []) ≡ live_among segments ++ live_in one
live_push segments one = flat_map-append live_in segments (one ∷ []) ∙ ap (λ (rules : List Rule). live_among segments ++ rules) (append-nil (live_in one))

-- what is known while segments are joined from the newest on
pub record Tapers (all : List Rule) (left next : List Segment) : Type 0 where
  pub same : live_among left ++ live_among next ≡ all
  pub taper : AreTapered next
  pub half : AreHalfLive next
  pub above : LastIsAbove left next

pub tapers_last : (all : List Rule) (left next : List Segment) → left ≡ [] → Tapers all left next → (live_among next ≡ all) × AreTapered next × AreHalfLive next
tapers_last all left next none is = (subst (λ (left : List Segment). live_among left ++ live_among next ≡ all) none is.same, is.taper, is.half)

last_at : (left older : List Segment) (last : Segment) → left ≡ older ++ last ∷ [] → (k : ℕ) (d : Segment) → k + 1 ≡ length left → get_or left k d ≡ last
last_at left older last is k d e =
    let long : length (older ++ last ∷ []) ≡ length older + 1 = length-append older (last ∷ []) in
    let at : k ≡ length older = (let s = ap length is in omega arith) in
    grind (arith, common_steps, is, at)

-- the newest that is left has no live rules
pub tapers_skip : (all : List Rule) (left next older : List Segment) (last : Segment) → left ≡ older ++ last ∷ [] → length (live_in last) ≡ 0 → Tapers all left next → Tapers all older next
tapers_skip all left next older last is none tapers =
    let long : length left ≡ length older + 1 = ap length is ∙ length-append older (last ∷ []) in
    let first : IsAbove (length (live_in last)) next =
    subst (λ (s : Segment). IsAbove (length (live_in s)) next) (last_at left older last is (length older) last (sym long)) (tapers.above (length older) last (sym long)) in
    let nothing : IsAbove 0 next = subst (λ n. IsAbove n next) none first in
    let live : live_among left ≡ live_among older =
    ap live_among is ∙ live_push older last ∙ ap (λ (rules : List Rule). live_among older ++ rules) (nil_of (live_in last) none) ∙ append-nil (live_among older) in
    record {
      same = ap (λ (rules : List Rule). rules ++ live_among next) (sym live) ∙ tapers.same;
      taper = tapers.taper;
      half = tapers.half;
      above = λ k d e. above_none (length (live_in (get_or older k d))) next nothing;
    }

-- from the start on, the last among them
last_within : (left older : List Segment) (last : Segment) (start : ℕ) → left ≡ older ++ last ∷ [] → start ≤ length older
    → length (live_among (drop start left)) ≡ length (live_among (drop start older)) + length (live_in last)
last_within left older last start is le =
    let cut : drop start left ≡ drop start older ++ last ∷ [] = ap (drop start) is ∙ drop-append-le start older (last ∷ []) le in
    ap (λ (segments : List Segment). length (live_among segments)) cut ∙ ap length (live_push (drop start older) last) ∙ length-append (live_among (drop start older)) (live_in last)

older_at : (left older : List Segment) (last : Segment) → left ≡ older ++ last ∷ [] → (k : ℕ) (d : Segment) → k < length older → get_or left k d ≡ get_or older k d
older_at left older last is k d lt = ap (λ (segments : List Segment). get_or segments k d) is ∙ get_or_append_left older (last ∷ []) d k lt

-- the newest that are left are joined
pub tapers_more : (all : List Rule) (left next older : List Segment) (last one : Segment) (start : ℕ) → left ≡ older ++ last ∷ [] → 0 < length (live_in last) → start ≤ length older
    → live_in one ≡ live_among (drop start left)
    → IsHalfLive one
    → IsAboveFrom older start (length (live_in last))
    → Tapers all left next → Tapers all (take start left) (one ∷ next)
tapers_more all left next older last one start is some le live half_live apart tapers =
    let long : length left ≡ length older + 1 = ap length is ∙ length-append older (last ∷ []) in
    let first : IsAbove (length (live_in last)) next =
    subst (λ (s : Segment). IsAbove (length (live_in s)) next) (last_at left older last is (length older) last (sym long)) (tapers.above (length older) last (sym long)) in
    let within = last_within left older last start is le in
    let more : length (live_in last) ≤ length (live_in one) = (let e = ap length live in omega arith) in
    let split : live_among (take start left) ++ live_among (drop start left) ≡ live_among left =
    sym (flat_map-append live_in (take start left) (drop start left)) ∙ ap live_among (take-append-drop start left) in
    let cut : length (take start left) ≡ start = omega (arith, length-take start left) in
    record {
      same = ap (λ (rules : List Rule). live_among (take start left) ++ (rules ++ live_among next)) live
          ∙ sym (append_assoc (live_among (take start left)) (live_among (drop start left)) (live_among next))
          ∙ ap (λ (rules : List Rule). rules ++ live_among next) split ∙ tapers.same;
      taper = tapered_cons one next (omega arith) (above_more (length (live_in last)) (length (live_in one)) next more first) tapers.taper;
      half = (half_live, tapers.half);
      above = λ k d e.
          let below : k < start = omega arith in
          let at : get_or (take start left) k d ≡ get_or left k d = get_or-take start left k d below in
          let there = ap (λ (s : Segment). length (live_in s)) (at ∙ older_at left older last is k d (omega arith)) in
          let far = apart k d (omega arith) in
          let same = ap length live in
          omega arith;
    }

-- newer rules are joined with the newest segments
pub newest_tapers : (segments : List Segment) (newer : List Rule) (one : Segment) (start : ℕ) → start ≤ length segments → 0 < length newer
    → live_in one ≡ live_among (drop start segments) ++ newer
    → IsHalfLive one
    → IsAboveFrom segments start (length newer)
    → (live_among (take start segments) ++ live_among (one ∷ []) ≡ live_among segments ++ newer) × AreTapered (one ∷ []) × AreHalfLive (one ∷ [])
    × LastIsAbove (take start segments) (one ∷ [])
newest_tapers segments newer one start le some live half_live apart =
    let split : live_among (take start segments) ++ live_among (drop start segments) ≡ live_among segments =
    sym (flat_map-append live_in (take start segments) (drop start segments)) ∙ ap live_among (take-append-drop start segments) in
    let alone : live_among (one ∷ []) ≡ live_among (drop start segments) ++ newer = append-nil (live_in one) ∙ live in
    let count : length (live_in one) ≡ length (live_among (drop start segments)) + length newer = ap length live ∙ length-append (live_among (drop start segments)) newer in
    let cut : length (take start segments) ≡ start = omega (arith, length-take start segments) in (
      ap (λ (rules : List Rule). live_among (take start segments) ++ rules) alone
          ∙ sym (append_assoc (live_among (take start segments)) (live_among (drop start segments)) newer)
          ∙ ap (λ (rules : List Rule). rules ++ newer) split,
      half one (omega arith),
      (half_live, tt),
      λ k d e.
          let below : k < start = omega arith in
          let there = ap (λ (s : Segment). length (live_in s)) (get_or-take start segments k d below) in
          let far = apart k d (omega arith) in
          omega arith,
    )

-- ---- what they count for

pub counts_both : (xs ys : List Rule) → counts_of (xs ++ ys) ≡ sum_of (counts_of xs) (counts_of ys)
counts_both xs ys =
    rw (length-append xs ys, sum_by-append (λ rule. cond (uses_regex rule) 1 0) xs ys, sum_by-append (λ rule. cond (is_unsafe rule.action) 1 0) xs ys) refl

pub live_more : (segments : List Segment) (i : ℕ) (d : Segment) → i < length segments → live_among (take (i + 1) segments) ≡ live_among (take i segments) ++ live_in (get_or segments i d)
live_more segments i d lt = ap live_among (take_more segments i d lt) ∙ live_push (take i segments) (get_or segments i d)

-- ---- who is among them

pub has_among : (segments : List Segment) (id : ℕ) → list_any (λ segment. has_id (live_in segment) id) segments ≡ has_id (live_among segments) id
has_among [] id = refl
has_among (segment ∷ segments) id =
    ap (λ (b : Bool). has_id (live_in segment) id || b) (has_among segments id)
    ∙ sym (list_any-append (λ (rule : Rule). id == rule.id) (live_in segment) (live_among segments))
