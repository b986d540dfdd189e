-- Lists that stand one behind another, and where each begins.
use Rattle.std.proofs.Common.{◌≡◌, ℕ, zero, suc, ◌+◌, ◌-◌, ◌<◌, ◌≤◌, List, [], ◌∷◌, ◌++◌, length, map, drop, get_or, Bool, true, false, cond, Option, Some, None, refl, sym, ap, ◌∙◌, arith, append_assoc, length-append, nat_lt, find}
use Rattle.std.specs.List.Sorted.{IsNonDecreasingBy}
use Rattle.std.proofs.lemmas.Bool.{cond-true, cond-false, lt-ltb, le-ltb}
use Rattle.std.proofs.lemmas.List.{drop_more}
use Rattle.std.proofs.lemmas.List.Concat.{length-flat_map}
use Rattle.std.proofs.lemmas.List.Folds.{flat_map-map}
use Rattle.rule_spec.specs.Rule.{Rule}
use Rattle.rule_spec.specs.State.{RuleSet}
use Rattle.update_spec.specs.Judge.{count_rules}
use Rattle.update_spec.specs.Update.{switched, with_first}
use Rattle.ruleset_store.specs.Installed.{put_first}
use Rattle.ruleset_store.specs.StaticIndex.{lists_of, place_in, rules_among, starts_from}

-- ---- where they begin

-- none begins before the first
starts_above : (start : ℕ) (lists : List (List Rule)) (k d : ℕ) → k < length (starts_from start lists) → start ≤ get_or (starts_from start lists) k d
starts_above start [] k d within = absurd (omega (arith, within))
starts_above start (rules ∷ lists) zero d within = omega arith
starts_above start (rules ∷ lists) (suc k) d within = let h = starts_above (start + length rules) lists k d (omega (arith, within)) in omega (arith, h)

pub starts_rise : (start : ℕ) (lists : List (List Rule)) → IsNonDecreasingBy (λ (n : ℕ). n) (starts_from start lists)
starts_rise start [] i j d order within = absurd (omega (arith, within))
starts_rise start (rules ∷ lists) zero zero d order within = omega arith
starts_rise start (rules ∷ lists) zero (suc j) d order within = let h = starts_above (start + length rules) lists j d (omega (arith, within)) in omega (arith, h)
starts_rise start (rules ∷ lists) (suc i) zero d order within = absurd (omega (arith, order))
starts_rise start (rules ∷ lists) (suc i) (suc j) d order within = starts_rise (start + length rules) lists i j d (omega (arith, order)) (omega (arith, within))

-- the rulesets from a place on, by the one that stands there
pub starts_more : (starts : List ℕ) (start next i : ℕ) (sets : List RuleSet) (set : RuleSet) → i < length sets → set ≡ get_or sets i set → next ≡ start + length set.rules
    → starts ++ starts_from start (lists_of (drop i sets)) ≡ (starts ++ start ∷ []) ++ starts_from next (lists_of (drop (i + 1) sets))
starts_more starts start next i sets set within is adds =
    ap (λ s. starts ++ starts_from start (lists_of s)) (drop_more sets i set within)
    ∙ ap (λ s. starts ++ start ∷ starts_from (start + length s.rules) (lists_of (drop (i + 1) sets))) (sym is)
    ∙ ap (λ n. starts ++ start ∷ starts_from n (lists_of (drop (i + 1) sets))) (sym adds)
    ∙ sym (append_assoc starts (start ∷ []) (starts_from next (lists_of (drop (i + 1) sets))))

-- they hold as many rules as all rulesets together
pub rules_counted : (sets : List RuleSet) → count_rules sets ≡ length (rules_among (lists_of sets))
rules_counted sets =
    sym (length-flat_map (λ (set : RuleSet). set.rules) sets)
    ∙ ap length (sym (flat_map-map (λ (own : List Rule). own) (λ (set : RuleSet). set.rules) sets))

-- ---- where a place stands

-- no list has it
pub past_all : (number : ℕ) (lists : List (List Rule)) (place : ℕ) → length (rules_among lists) ≤ place → place_in number lists place ≡ None
past_all number [] place past = refl
past_all number (rules ∷ lists) place past =
    let both = length-append rules (rules_among lists) in
    cond-false (nat_lt place (length rules)) (Some (number, place)) (place_in (number + 1) lists (place - length rules)) (le-ltb place (length rules) (omega (arith, both, past)))
    ∙ past_all (number + 1) lists (place - length rules) (omega (arith, both, past))

-- it stands in the last list that begins at it or before
pub last_begun : (number start : ℕ) (lists : List (List Rule)) (place i : ℕ) → i < length (starts_from start lists)
    → get_or (starts_from start lists) i 0 ≤ start + place
    → ((k : ℕ) → i < k → k < length (starts_from start lists) → start + place < get_or (starts_from start lists) k 0)
    → place < length (rules_among lists)
    → place_in number lists place ≡ Some (number + i, (start + place) - get_or (starts_from start lists) i 0)
last_begun number start [] place i within begun behind inside = absurd (omega (arith, within))
last_begun number start (rules ∷ []) place zero within begun behind inside =
    let both = length-append rules [] in
    let a : number + 0 ≡ number = omega arith in
    let b : (start + place) - start ≡ place = omega arith in
    cond-true (nat_lt place (length rules)) (Some (number, place)) None (lt-ltb place (length rules) (omega (arith, both, inside)))
    ∙ ap (λ n. Some (n, place)) (sym a) ∙ ap (λ n. Some (number + 0, n)) (sym b)
last_begun number start (rules ∷ (more ∷ lists)) place zero within begun behind inside =
    let next = behind 1 (omega arith) (omega arith) in
    let a : number + 0 ≡ number = omega arith in
    let b : (start + place) - start ≡ place = omega arith in
    cond-true (nat_lt place (length rules)) (Some (number, place)) (place_in (number + 1) (more ∷ lists) (place - length rules)) (lt-ltb place (length rules) (omega (arith, next)))
    ∙ ap (λ n. Some (n, place)) (sym a) ∙ ap (λ n. Some (number + 0, n)) (sym b)
last_begun number start (rules ∷ lists) place (suc i) within begun behind inside =
    let both = length-append rules (rules_among lists) in
    let above = starts_above (start + length rules) lists i 0 (omega (arith, within)) in
    let over : length rules ≤ place = omega (arith, above, begun) in
    let same : start + length rules + (place - length rules) ≡ start + place = omega (arith, over) in
    let a : number + 1 + i ≡ number + suc i = omega arith in
    cond-false (nat_lt place (length rules)) (Some (number, place)) (place_in (number + 1) lists (place - length rules)) (le-ltb place (length rules) over)
    ∙ last_begun (number + 1) (start + length rules) lists (place - length rules) i (omega (arith, within)) (omega (arith, begun, same))
    (λ k order there. let h = behind (suc k) (omega (arith, order)) (omega (arith, there)) in omega (arith, h, same))
    (omega (arith, both, inside, over))
    ∙ ap (λ n. Some (n, (start + length rules + (place - length rules)) - get_or (starts_from (start + length rules) lists) i 0)) a
    ∙ ap (λ n. Some (number + suc i, n - get_or (starts_from (start + length rules) lists) i 0)) same

-- so it stands in the last of those that begin at it or before
pub begun_is : (lists : List (List Rule)) (place count : ℕ) (starts : List ℕ) → starts ≡ starts_from 0 lists → 0 < count → count ≤ length starts
    → ((k : ℕ) → k < count → get_or starts k 0 ≤ place) → ((k : ℕ) → count ≤ k → k < length starts → place < get_or starts k 0)
    → place < length (rules_among lists) → Some (count - 1, place - get_or starts (count - 1) 0) ≡ place_in 0 lists place
begun_is lists place count starts is some within below behind inside =
    let long = ap length is in
    let at : (k : ℕ) → get_or starts k 0 ≡ get_or (starts_from 0 lists) k 0 = λ k. ap (λ (s : List ℕ). get_or s k 0) is in
    let first = below (count - 1) (omega (arith, some)) in
    let here = at (count - 1) in
    let a : count - 1 ≡ 0 + (count - 1) = omega arith in
    let b : place ≡ 0 + place = omega arith in
    ap (λ n. Some (count - 1, place - n)) here
    ∙ ap (λ n. Some (n, place - get_or (starts_from 0 lists) (count - 1) 0)) a
    ∙ ap (λ n. Some (0 + (count - 1), n - get_or (starts_from 0 lists) (count - 1) 0)) b
    ∙ sym (last_begun 0 0 lists place (count - 1) (omega (arith, long, some, within)) (omega (arith, first, here))
    (λ k order there. let h = behind k (omega (arith, order, some)) (omega (arith, long, there)) in let e = at k in omega (arith, h, e))
    inside)

-- a rule that is there stands behind the beginning of a list
pub some_begun : (lists : List (List Rule)) (place : ℕ) (starts : List ℕ) → starts ≡ starts_from 0 lists
    → ((k : ℕ) → 0 ≤ k → k < length starts → place < get_or starts k 0) → place < length (rules_among lists) → ⊥
some_begun [] place starts is behind inside = omega (arith, inside)
some_begun (rules ∷ lists) place starts is behind inside =
    let long = ap length is in
    let first = ap (λ (s : List ℕ). get_or s 0 0) is in
    let h = behind 0 (omega arith) (omega (arith, long)) in
    omega (arith, h, first)

-- ---- rulesets that are switched have the same rules

pub switched_lists : (disable enable : List (List ℕ)) (sets : List RuleSet) → lists_of (map (switched disable enable) sets) ≡ lists_of sets
switched_lists disable enable [] = refl
switched_lists disable enable (set ∷ sets) = ap (λ l. set.rules ∷ l) (switched_lists disable enable sets)

put_step : (b : Bool) (set next other : RuleSet) (tail changed : List RuleSet) (found : Option RuleSet) → next.rules ≡ set.rules
    → (found ≡ Some set → lists_of changed ≡ lists_of tail) → cond b (Some other) found ≡ Some set
    → lists_of (cond b (next ∷ tail) (other ∷ changed)) ≡ other.rules ∷ lists_of tail
put_step true set next other tail changed found same rest is =
    let e : other ≡ set = cc in
    ap (λ (rules : List Rule). rules ∷ lists_of tail) (same ∙ sym (ap (λ (s : RuleSet). s.rules) e))
put_step false set next other tail changed found same rest is = ap (λ l. other.rules ∷ l) (rest is)

-- a ruleset of the same rules in place of one that is there
pub put_lists : (is_meant : RuleSet → Bool) (set next : RuleSet) (sets : List RuleSet) → next.rules ≡ set.rules → find is_meant sets ≡ Some set
    → lists_of (put_first is_meant next sets) ≡ lists_of sets
unfolding put_first
put_lists is_meant set next [] same is = refl
put_lists is_meant set next (other ∷ sets) same is =
    put_step (is_meant other) set next other sets (with_first is_meant (λ _. next) sets) (find is_meant sets) same (put_lists is_meant set next sets same) is
