-- Rules of which some are removed by their ids.
use Rattle.std.proofs.Common.{◌≡◌, ℕ, ◌+◌, ◌-◌, List, [], ◌∷◌, ◌++◌, Bool, true, false, cond, not, ◌&&◌, ◌||◌, refl, sym, ap, ◌∙◌, length, sum_by, arith, eq-eqb, append-nil}
use Rattle.std.specs.Prelude.{◌==◌, count_by, filter}
use Rattle.std.proofs.Math.Bool.{or-true}
use Rattle.std.proofs.lemmas.Bool.{eqb-true}
use Rattle.std.proofs.lemmas.Bool.Decides.{nat_tests}
use Rattle.std.proofs.lemmas.List.Elements.{filter-append}
use Rattle.std.proofs.lemmas.List.Folds.{list_any-append}
use Rattle.std.proofs.lemmas.List.Sums.{sum_by-cons}
use Rattle.std.proofs.lemmas.Map.Views.{any-filter_same}
use Rattle.rule_spec.specs.Rule.{Rule, is_unsafe}
use Rattle.rule_spec.specs.State.{has_number}
use Rattle.update_spec.specs.Judge.{has_id, uses_regex}
use Rattle.update_spec.specs.Update.{without_ids}
use Rattle.rule_ids.specs.Counted.{counts_of, less}
use Rattle.rule_segments.specs.Segments.{Segment, live_in, live_among, of_id}
use Rattle.rule_segments.proofs.Tapered.{live_push}

pub none_removed : (rules : List Rule) → without_ids [] rules ≡ rules
none_removed [] = refl
none_removed (rule ∷ rules) = ap (λ (rest : List Rule). rule ∷ rest) (none_removed rules)

-- ---- who is live

number_same : (ids : List ℕ) (a b : ℕ) → (a == b) ≡ true → has_number ids b ≡ has_number ids a
number_same ids a b same = ap (has_number ids) (sym (eqb-true a b same))

pub has_live : (removed : List ℕ) (rules : List Rule) (id : ℕ) → (not (has_number removed id) && has_id rules id) ≡ has_id (without_ids removed rules) id
has_live removed rules id =
    sym (any-filter_same (λ (rule : Rule). id == rule.id) (λ rule. not (has_number removed rule.id)) (not (has_number removed id))
    (λ rule is. ap (λ (b : Bool). not b) (number_same removed id rule.id is)) rules)

-- ---- what is removed from segments

without_both : (remove : List ℕ) (xs ys : List Rule) → without_ids remove (xs ++ ys) ≡ without_ids remove xs ++ without_ids remove ys
without_both remove xs ys = filter-append (λ (rule : Rule). not (has_number remove rule.id)) xs ys

gone_by : (number known taken : Bool) → known ≡ true → not (number || ((not number && known) && taken)) ≡ (not number && not taken)
gone_by true known taken is = refl
gone_by false true taken is = refl
gone_by false false taken is = absurd (let e = is in cc)

kept_twice : (a b : Bool) (rule : Rule) (xs : List Rule) (p : Rule → Bool) → filter p (cond a (rule ∷ xs) xs) ≡ cond (a && p rule) (rule ∷ filter p xs) (filter p xs)
kept_twice true b rule xs p = refl
kept_twice false b rule xs p = refl

-- of the rules of a list, those stay whose ids are not among the ones that some of them have
removed_among : (removed remove : List ℕ) (all xs : List Rule) → ((id : ℕ) → has_id xs id ≡ true → has_id all id ≡ true)
    → without_ids (removed ++ filter (has_id (without_ids removed all)) remove) xs ≡ without_ids remove (without_ids removed xs)
removed_among removed remove all [] there = refl
removed_among removed remove all (rule ∷ xs) there =
    let live : ℕ → Bool = has_id (without_ids removed all) in
    let known : has_id all rule.id ≡ true = there rule.id (ap (λ (b : Bool). b || has_id xs rule.id) (eq-eqb rule.id rule.id refl)) in
    let number : has_number (removed ++ filter live remove) rule.id ≡ (has_number removed rule.id || (live rule.id && has_number remove rule.id)) =
    list_any-append (λ other. rule.id == other) removed (filter live remove)
    ∙ ap (λ (b : Bool). has_number removed rule.id || b) (any-filter_same (λ other. rule.id == other) live (live rule.id) (λ other is. ap live (sym (eqb-true rule.id other is))) remove) in
    let stays : not (has_number (removed ++ filter live remove) rule.id) ≡ (not (has_number removed rule.id) && not (has_number remove rule.id)) =
    ap (λ (b : Bool). not b) (number ∙ ap (λ (b : Bool). has_number removed rule.id || (b && has_number remove rule.id)) (sym (has_live removed all rule.id)))
    ∙ gone_by (has_number removed rule.id) (has_id all rule.id) (has_number remove rule.id) known in
    let rest : without_ids (removed ++ filter live remove) xs ≡ without_ids remove (without_ids removed xs) =
    removed_among removed remove all xs (λ id has. there id (ap (λ (b : Bool). (id == rule.id) || b) has ∙ or-true (id == rule.id))) in
    ap (λ (b : Bool). cond b (rule ∷ without_ids (removed ++ filter live remove) xs) (without_ids (removed ++ filter live remove) xs)) stays
    ∙ ap (λ (kept : List Rule). cond (not (has_number removed rule.id) && not (has_number remove rule.id)) (rule ∷ kept) kept) rest
    ∙ sym (kept_twice (not (has_number removed rule.id)) true rule (without_ids removed xs) (λ other. not (has_number remove other.id)))

pub removed_more : (removed remove : List ℕ) (rules : List Rule)
    → without_ids (removed ++ filter (has_id (without_ids removed rules)) remove) rules ≡ without_ids remove (without_ids removed rules)
removed_more removed remove rules = removed_among removed remove rules rules (λ id has. has)

-- a segment without the ids comes behind others
pub without_more : (remove : List ℕ) (next done : List Segment) (one segment : Segment) → live_among next ≡ without_ids remove (live_among done) → live_in one ≡ without_ids remove (live_in segment)
    → live_among (next ++ one ∷ []) ≡ without_ids remove (live_among (done ++ segment ∷ []))
without_more remove next done one segment all same =
    live_push next one
    ∙ ap (λ (rules : List Rule). rules ++ live_in one) all
    ∙ ap (λ (rules : List Rule). without_ids remove (live_among done) ++ rules) same
    ∙ sym (without_both remove (live_among done) (live_in segment))
    ∙ ap (without_ids remove) (sym (live_push done segment))

-- ---- what stays is counted by what goes

-- a rule that is not live, that stays, or that goes: what it adds on both sides
added : (f : Rule → ℕ) (off taken is : Bool) (rule : Rule) (after gone before : List Rule) → (is ≡ true → off ≡ false) → (is ≡ true → taken ≡ false)
    → sum_by f after + sum_by f gone ≡ sum_by f before
    → sum_by f (cond (not off && not (taken || is)) (rule ∷ after) after) + sum_by f (cond is (rule ∷ gone) gone) ≡ sum_by f (cond (not off && not taken) (rule ∷ before) before)
added f true taken true rule after gone before live apart sums = absurd (let e = live refl in cc)
added f false true true rule after gone before live apart sums = absurd (let e = apart refl in cc)
added f false false true rule after gone before live apart sums =
    let one : sum_by f (rule ∷ gone) ≡ f rule + sum_by f gone = sum_by-cons f rule gone in
    let two : sum_by f (rule ∷ before) ≡ f rule + sum_by f before = sum_by-cons f rule before in
    omega arith
added f true taken false rule after gone before live apart sums = sums
added f false true false rule after gone before live apart sums = sums
added f false false false rule after gone before live apart sums =
    let one : sum_by f (rule ∷ after) ≡ f rule + sum_by f after = sum_by-cons f rule after in
    let two : sum_by f (rule ∷ before) ≡ f rule + sum_by f before = sum_by-cons f rule before in
    omega arith

or_false : (b : Bool) → (b || false) ≡ b
or_false true = refl
or_false false = refl

eq_turned : (a b : ℕ) → (a == b) ≡ (b == a)
eq_turned a b = grind (arith, nat_tests)

-- the rules of an id that is not removed yet go from those that stay
sums_less : (f : Rule → ℕ) (removed remove : List ℕ) (x : ℕ) (rules : List Rule) → has_number removed x ≡ false → has_number remove x ≡ false
    → sum_by f (without_ids (remove ++ x ∷ []) (without_ids removed rules)) + sum_by f (of_id x rules) ≡ sum_by f (without_ids remove (without_ids removed rules))
sums_less f removed remove x [] live apart = refl
sums_less f removed remove x (rule ∷ rules) live apart =
    let off : Bool = has_number removed rule.id in
    let taken : Bool = has_number remove rule.id in
    let is : Bool = x == rule.id in
    let number : has_number (remove ++ x ∷ []) rule.id ≡ (taken || is) =
    list_any-append (λ other. rule.id == other) remove (x ∷ []) ∙ ap (λ (b : Bool). taken || b) (or_false (rule.id == x) ∙ eq_turned rule.id x) in
    let after : filter (λ other. not (has_number (remove ++ x ∷ []) other.id)) (cond (not off) (rule ∷ without_ids removed rules) (without_ids removed rules))
    ≡ cond (not off && not (taken || is)) (rule ∷ without_ids (remove ++ x ∷ []) (without_ids removed rules)) (without_ids (remove ++ x ∷ []) (without_ids removed rules)) =
    kept_twice (not off) true rule (without_ids removed rules) (λ other. not (has_number (remove ++ x ∷ []) other.id))
    ∙ ap (λ (b : Bool). cond (not off && not b) (rule ∷ without_ids (remove ++ x ∷ []) (without_ids removed rules)) (without_ids (remove ++ x ∷ []) (without_ids removed rules))) number in
    let before : filter (λ other. not (has_number remove other.id)) (cond (not off) (rule ∷ without_ids removed rules) (without_ids removed rules))
    ≡ cond (not off && not taken) (rule ∷ without_ids remove (without_ids removed rules)) (without_ids remove (without_ids removed rules)) =
    kept_twice (not off) true rule (without_ids removed rules) (λ other. not (has_number remove other.id)) in
    let both = added f off taken is rule (without_ids (remove ++ x ∷ []) (without_ids removed rules)) (of_id x rules) (without_ids remove (without_ids removed rules))
    (λ same. number_same removed x rule.id same ∙ live) (λ same. number_same remove x rule.id same ∙ apart)
    (sums_less f removed remove x rules live apart) in
    ap (λ (xs : List Rule). sum_by f xs + sum_by f (cond is (rule ∷ of_id x rules) (of_id x rules))) after ∙ both ∙ sym (ap (sum_by f) before)

length_is : (xs : List Rule) → length xs ≡ sum_by (λ x. 1) xs
length_is [] = refl
length_is (x ∷ xs) = let e : length xs ≡ sum_by (λ x. 1) xs = length_is xs in let c : sum_by (λ x. 1) (x ∷ xs) ≡ 1 + sum_by (λ x. 1) xs = sum_by-cons (λ x. 1) x xs in omega arith

less_is : (a b c : ℕ) → a + b ≡ c → a ≡ c - b
less_is a b c e = omega arith

pub counts_less : (removed remove : List ℕ) (x : ℕ) (rules : List Rule) → has_number removed x ≡ false → has_number remove x ≡ false
    → less (counts_of (without_ids remove (without_ids removed rules))) (counts_of (of_id x rules)) ≡ counts_of (without_ids (remove ++ x ∷ []) (without_ids removed rules))
counts_less removed remove x rules live apart =
    let before : List Rule = without_ids remove (without_ids removed rules) in
    let after : List Rule = without_ids (remove ++ x ∷ []) (without_ids removed rules) in
    let gone : List Rule = of_id x rules in
    let rule_sums = sums_less (λ rule. 1) removed remove x rules live apart in
    let lengths : length after + length gone ≡ length before = rw (length_is after, length_is gone, length_is before) rule_sums in
    let patterns = sums_less (λ rule. cond (uses_regex rule) 1 0) removed remove x rules live apart in
    let risky = sums_less (λ rule. cond (is_unsafe rule.action) 1 0) removed remove x rules live apart in
    sym (rw (
      less_is (length after) (length gone) (length before) lengths,
      less_is (count_by uses_regex after) (count_by uses_regex gone) (count_by uses_regex before) patterns,
      less_is (count_by (λ rule. is_unsafe rule.action) after) (count_by (λ rule. is_unsafe rule.action) gone) (count_by (λ rule. is_unsafe rule.action) before) risky,
    ) refl)

or_left : (a b : Bool) → (a || b) ≡ false → a ≡ false
or_left true b is = is
or_left false b is = refl

or_right : (a b : Bool) → (a || b) ≡ false → b ≡ false
or_right true b is = absurd (let e = is in cc)
or_right false b is = is

-- an id that no live rule has removes none
pub nothing_less : (remove : List ℕ) (x : ℕ) (rules : List Rule) → has_id rules x ≡ false → without_ids (remove ++ x ∷ []) rules ≡ without_ids remove rules
nothing_less remove x [] none = refl
nothing_less remove x (rule ∷ rules) none =
    let other : (x == rule.id) ≡ false = or_left (x == rule.id) (has_id rules x) none in
    let rest : without_ids (remove ++ x ∷ []) rules ≡ without_ids remove rules = nothing_less remove x rules (or_right (x == rule.id) (has_id rules x) none) in
    let number : has_number (remove ++ x ∷ []) rule.id ≡ has_number remove rule.id =
    list_any-append (λ other. rule.id == other) remove (x ∷ [])
    ∙ ap (λ (b : Bool). has_number remove rule.id || b) (or_false (rule.id == x) ∙ eq_turned rule.id x ∙ other) ∙ or_false (has_number remove rule.id) in
    ap (λ (b : Bool). cond (not b) (rule ∷ without_ids (remove ++ x ∷ []) rules) (without_ids (remove ++ x ∷ []) rules)) number
    ∙ ap (λ (kept : List Rule). cond (not (has_number remove rule.id)) (rule ∷ kept) kept) rest

not_true : (b c : Bool) → (not b && c) ≡ true → b ≡ false
not_true true c is = absurd (let e = is in cc)
not_true false c is = refl

-- an id that a live rule has is not removed
pub live_apart : (removed : List ℕ) (rules : List Rule) (id : ℕ) → has_id (without_ids removed rules) id ≡ true → has_number removed id ≡ false
live_apart removed rules id is = not_true (has_number removed id) (has_id rules id) (has_live removed rules id ∙ is)

-- a segment of the same rules, from which these go too
pub next_live : (removed remove ids : List ℕ) (rules next : List Rule) → ids ≡ removed ++ filter (has_id (without_ids removed rules)) remove → next ≡ rules
    → without_ids ids next ≡ without_ids remove (without_ids removed rules)
next_live removed remove ids rules next is same =
    ap (λ (ids : List ℕ). without_ids ids next) is
    ∙ ap (without_ids (removed ++ filter (has_id (without_ids removed rules)) remove)) same
    ∙ removed_more removed remove rules

-- where no id goes, all stay
pub none_gone : (removed remove : List ℕ) (rules : List Rule) → filter (has_id (without_ids removed rules)) remove ≡ []
    → without_ids removed rules ≡ without_ids remove (without_ids removed rules)
none_gone removed remove rules none =
    sym (ap (λ (ids : List ℕ). without_ids ids rules) (append-nil removed))
    ∙ ap (λ (gone : List ℕ). without_ids (removed ++ gone) rules) (sym none)
    ∙ removed_more removed remove rules
