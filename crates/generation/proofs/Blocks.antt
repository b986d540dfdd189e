-- Rules that are looked up together, as a list of rules in force.
use Rattle.std.proofs.Common.{◌≡◌, ℕ, zero, suc, ◌+◌, ◌-◌, ◌<◌, ◌≤◌, List, [], ◌∷◌, ◌++◌, length, drop, get_or, Bool, true, false, not, cond, Option, Some, None, inl, inr, refl, sym, ap, ◌∙◌, arith, nat_lt}
use Rattle.std.specs.Prelude.{option_and_then, slice_get}
use Rattle.std.specs.List.{filter_map, cons_option}
use Rattle.std.proofs.lemmas.Bool.{cases_lt, cond-true, cond-false, le-ltb, lt-ltb}
use Rattle.std.proofs.lemmas.List.{drop_more, drop_all, map-append}
use Rattle.dnr_base.specs.declared.rank.Rank.{Rank}
use Rattle.dnr_base.specs.declared.rank.Rank.TheVariants.{Static}
use Rattle.rule_spec.specs.Rule.{Rule}
use Rattle.rule_spec.specs.State.{Live, RuleSet, has_number, live_in_set, live_with, with_lines, live_of, live_from}
use Rattle.rule_segments.specs.Segments.{Segment, live_among, live_in}
use Rattle.ruleset_store.specs.StaticIndex.{lists_of, place_in, rules_among}
use Rattle.update_spec.specs.Update.{without_ids}
use Rattle.generation.specs.Block.{Standing, lines_at, live_by, live_by_some, lives_from, set_there, sets_there, standing_from, standing_in}

-- ---- rules in force from a place on

abbrev pub Test : Type 0
Test = ℕ → Rule → Option Live

-- those from a place on, by the rule that stands there
pub block_step : (test : Test) (rules : List Rule) (i : ℕ) (rule : Rule) → i < length rules → rule ≡ get_or rules i rule
    → lives_from test i (drop i rules) ≡ cons_option (test i rule) (lives_from test (i + 1) (drop (i + 1) rules))
block_step test rules i rule h is =
    ap (lives_from test i) (drop_more rules i rule h)
    ∙ ap (λ r. cons_option (test i r) (lives_from test (i + 1) (drop (i + 1) rules))) (sym is)

pub block_end : (test : Test) (rules : List Rule) (i : ℕ) → length rules ≤ i → lives_from test i (drop i rules) ≡ []
block_end test rules i h = ap (lives_from test i) (drop_all i rules h)

-- two tests that agree, each from its first place on
lives_same : (one other : Test) (first second : ℕ) (rules : List Rule) → ((k : ℕ) (rule : Rule) → k < length rules → one (first + k) rule ≡ other (second + k) rule)
    → lives_from one first rules ≡ lives_from other second rules
lives_same one other first second [] same = refl
lives_same one other first second (rule ∷ rules) same =
    let a : first + 0 ≡ first = omega arith in
    let b : second + 0 ≡ second = omega arith in
    let here : one first rule ≡ other second rule = sym (ap (λ n. one n rule) a) ∙ same 0 rule (omega arith) ∙ ap (λ n. other n rule) b in
    ap (λ o. cons_option o (lives_from one (first + 1) rules)) here
    ∙ ap (cons_option (other second rule)) (lives_same one other (first + 1) (second + 1) rules
    (λ k rule within.
    let d : first + 1 + k ≡ first + suc k = omega arith in
    let e : second + 1 + k ≡ second + suc k = omega arith in
    ap (λ n. one n rule) d ∙ same (suc k) rule (omega (arith, within)) ∙ sym (ap (λ n. other n rule) e)))

option_append : (o : Option Live) (xs ys : List Live) → cons_option o (xs ++ ys) ≡ cons_option o xs ++ ys
option_append None xs ys = refl
option_append (Some live) xs ys = refl

-- those of two lists, one behind the other
lives_append : (test : Test) (first : ℕ) (xs ys : List Rule) → lives_from test first (xs ++ ys) ≡ lives_from test first xs ++ lives_from test (first + length xs) ys
lives_append test first [] ys = let a : first ≡ first + 0 = omega arith in ap (λ n. lives_from test n ys) a
lives_append test first (rule ∷ xs) ys =
    let a : first + 1 + length xs ≡ first + suc (length xs) = omega arith in
    ap (cons_option (test first rule)) (lives_append test (first + 1) xs ys ∙ ap (λ n. lives_from test (first + 1) xs ++ lives_from test n ys) a)
    ∙ option_append (test first rule) (lives_from test (first + 1) xs) (lives_from test (first + suc (length xs)) ys)

-- ---- of a segment

live_case : (off : Bool) (rank : Rank) (set : List ℕ) (rule : Rule) (lives : List Live) (rules : List Rule) → lives ≡ live_with rank set rules
    → cons_option (cond off None (Some (record { rank = rank; set = set; rule = rule; lines = [] }))) lives ≡ live_with rank set (cond (not off) (rule ∷ rules) rules)
live_case true rank set rule lives rules h = h
live_case false rank set rule lives rules h = ap (λ (l : List Live). record { rank = rank; set = set; rule = rule; lines = [] } ∷ l) h

-- none comes from a line
pub segment_lives : (rank : Rank) (set off : List ℕ) (place : ℕ) (rules : List Rule)
    → lives_from (λ n. live_by (record { rank = rank; set = set; off = off; lines = [] })) place rules ≡ live_with rank set (without_ids off rules)
segment_lives rank set off place [] = refl
segment_lives rank set off place (rule ∷ rules) =
    live_case (has_number off rule.id) rank set rule
    (lives_from (λ n. live_by (record { rank = rank; set = set; off = off; lines = [] })) (place + 1) rules) (without_ids off rules)
    (segment_lives rank set off (place + 1) rules)

-- ---- of a ruleset

-- the rules from a place on, with the lines that each comes from
with_lines_at : (number : ℕ) (set : RuleSet) (origins : List (List ℕ)) (first : ℕ) (rules : List Rule) (rest : List (List ℕ))
    → ((k : ℕ) → lines_at origins (first + k) ≡ lines_at rest k)
    → lives_from (λ n rule. live_by (record { rank = Static number; set = set.id; off = set.disabled; lines = lines_at origins n }) rule) first rules
    ≡ filter_map (live_in_set number set) (with_lines rules rest)
with_lines_at number set origins first [] rest same = refl
with_lines_at number set origins first (rule ∷ rules) [] same =
    let a : first + 0 ≡ first = omega arith in
    ap (λ (lines : List ℕ). cons_option (live_in_set number set (rule, lines))
    (lives_from (λ n rule. live_by (record { rank = Static number; set = set.id; off = set.disabled; lines = lines_at origins n }) rule) (first + 1) rules))
    (sym (ap (lines_at origins) a) ∙ same 0)
    ∙ ap (cons_option (live_in_set number set (rule, []))) (with_lines_at number set origins (first + 1) rules []
    (λ k. let b : first + 1 + k ≡ first + suc k = omega arith in ap (lines_at origins) b ∙ same (suc k) ∙ none_at k))
  where
    none_at : (k : ℕ) → lines_at [] (suc k) ≡ lines_at [] k
    none_at zero = refl
    none_at (suc k) = refl
with_lines_at number set origins first (rule ∷ rules) (own ∷ rest) same =
    let a : first + 0 ≡ first = omega arith in
    ap (λ (lines : List ℕ). cons_option (live_in_set number set (rule, lines))
    (lives_from (λ n rule. live_by (record { rank = Static number; set = set.id; off = set.disabled; lines = lines_at origins n }) rule) (first + 1) rules))
    (sym (ap (lines_at origins) a) ∙ same 0)
    ∙ ap (cons_option (live_in_set number set (rule, own))) (with_lines_at number set origins (first + 1) rules rest
    (λ k. let b : first + 1 + k ≡ first + suc k = omega arith in ap (lines_at origins) b ∙ same (suc k)))

none_from : (place : ℕ) (rules : List Rule) → lives_from (λ n rule. None) place rules ≡ []
none_from place [] = refl
none_from place (rule ∷ rules) = none_from (place + 1) rules

set_case : (enabled : Bool) (number : ℕ) (set : RuleSet)
    → lives_from (λ n rule. live_by_some (cond enabled (Some (record { rank = Static number; set = set.id; off = set.disabled; lines = lines_at set.origins n })) None) rule) 0 set.rules
    ≡ cond enabled (filter_map (live_in_set number set) (with_lines set.rules set.origins)) []
set_case true number set = with_lines_at number set set.origins 0 set.rules set.origins (λ k. let a : 0 + k ≡ k = omega arith in ap (lines_at set.origins) a)
set_case false number set = none_from 0 set.rules

set_lives : (number : ℕ) (set : RuleSet) → lives_from (λ n. live_by_some (standing_in number set n)) 0 set.rules ≡ live_of number set
set_lives number set = set_case set.enabled number set

-- ---- of all rulesets

-- those of the rulesets, the first of this number
pub sets_lives : (number : ℕ) (sets : List RuleSet)
    → lives_from (λ n. live_by_some (standing_from number sets n)) 0 (rules_among (lists_of sets)) ≡ live_from number sets
sets_lives number [] = refl
sets_lives number (set ∷ sets) =
    let all : Test = λ n. live_by_some (standing_from number (set ∷ sets) n) in
    let rest : Test = λ n. live_by_some (standing_from (number + 1) sets n) in
    lives_append all 0 set.rules (rules_among (lists_of sets))
    ∙ ap (λ (lives : List Live). lives ++ lives_from all (0 + length set.rules) (rules_among (lists_of sets)))
    (lives_same all (λ n. live_by_some (standing_in number set n)) 0 0 set.rules (λ k rule within.
    let a : 0 + k ≡ k = omega arith in
    ap (λ n. all n rule) a
    ∙ ap (λ (o : Option Standing). live_by_some o rule) (cond-true (nat_lt k (length set.rules)) (standing_in number set k) (standing_from (number + 1) sets (k - length set.rules)) (lt-ltb k (length set.rules) within))
    ∙ sym (ap (λ n. live_by_some (standing_in number set n) rule) a))
    ∙ set_lives number set)
    ∙ ap (λ (lives : List Live). live_of number set ++ lives)
    (lives_same all rest (0 + length set.rules) 0 (rules_among (lists_of sets)) (λ k rule within.
    let place : ℕ = 0 + length set.rules + k in
    let over : length set.rules ≤ place = omega arith in
    let left : place - length set.rules ≡ 0 + k = omega arith in
    ap (λ (o : Option Standing). live_by_some o rule) (cond-false (nat_lt place (length set.rules)) (standing_in number set place) (standing_from (number + 1) sets (place - length set.rules)) (le-ltb place (length set.rules) over))
    ∙ ap (λ n. rest n rule) left)
    ∙ sets_lives (number + 1) sets)

-- ---- the rule at a place of the rulesets

-- where it stands by its number and its place there
abbrev pub there_by : (ℕ → Option RuleSet) → Option (ℕ × ℕ) → Option Live
there_by pick None = None
there_by pick (Some at) = option_and_then (λ set. set_there at.0 set at.1) (pick at.0)

get_before : (xs ys : List Rule) (k : ℕ) → k < length xs → slice_get (xs ++ ys) k ≡ slice_get xs k
get_before [] ys k within = absurd (omega (arith, within))
get_before (x ∷ xs) ys zero within = refl
get_before (x ∷ xs) ys (suc k) within = get_before xs ys k (omega (arith, within))

get_behind : (xs ys : List Rule) (k : ℕ) → length xs ≤ k → slice_get (xs ++ ys) k ≡ slice_get ys (k - length xs)
get_behind [] ys k over = let a : k ≡ k - 0 = omega arith in ap (slice_get ys) a
get_behind (x ∷ xs) ys zero over = absurd (omega (arith, over))
get_behind (x ∷ xs) ys (suc k) over =
    let a : k - length xs ≡ suc k - suc (length xs) = omega arith in
    get_behind xs ys k (omega (arith, over)) ∙ ap (slice_get ys) a

-- the ruleset of a number is found by its place among them
pub place_there : (number : ℕ) (sets : List RuleSet) (pick : ℕ → Option RuleSet) (place : ℕ) → ((k : ℕ) → pick (number + k) ≡ slice_get sets k)
    → there_by pick (place_in number (lists_of sets) place) ≡ sets_there number sets place
place_there number [] pick zero same = refl
place_there number [] pick (suc place) same = refl
place_there number (set ∷ sets) pick place same =
    let rest = standing_from (number + 1) sets (place - length set.rules) in
    let later = place_in (number + 1) (lists_of sets) (place - length set.rules) in
    elim (cases_lt place (length set.rules)) [
      | inl within ↦
          let a : number ≡ number + 0 = omega arith in
          ap (there_by pick) (cond-true (nat_lt place (length set.rules)) (Some (number, place)) later (lt-ltb place (length set.rules) within))
          ∙ ap (option_and_then (λ s. set_there number s place)) (ap pick a ∙ same 0)
          ∙ ap (option_and_then (live_by_some (standing_in number set place))) (sym (get_before set.rules (rules_among (lists_of sets)) place within))
          ∙ ap (λ (o : Option Standing). option_and_then (live_by_some o) (slice_get (set.rules ++ rules_among (lists_of sets)) place))
          (sym (cond-true (nat_lt place (length set.rules)) (standing_in number set place) rest (lt-ltb place (length set.rules) within)))
      | inr over ↦
          ap (there_by pick) (cond-false (nat_lt place (length set.rules)) (Some (number, place)) later (le-ltb place (length set.rules) over))
          ∙ place_there (number + 1) sets pick (place - length set.rules)
          (λ k. let a : number + 1 + k ≡ number + suc k = omega arith in ap pick a ∙ same (suc k))
          ∙ ap (option_and_then (live_by_some rest)) (sym (get_behind set.rules (rules_among (lists_of sets)) place over))
          ∙ ap (λ (o : Option Standing). option_and_then (live_by_some o) (slice_get (set.rules ++ rules_among (lists_of sets)) place))
          (sym (cond-false (nat_lt place (length set.rules)) (standing_in number set place) rest (le-ltb place (length set.rules) over)))
    ]

-- ---- of segments

-- the segments from a place on, by the one that stands there
pub segments_step : (rank : Rank) (set : List ℕ) (segments : List Segment) (i : ℕ) (segment : Segment) (lives : List Live) → i < length segments → segment ≡ get_or segments i segment
    → lives ≡ live_with rank set (live_in segment)
    → live_with rank set (live_among (drop i segments)) ≡ lives ++ live_with rank set (live_among (drop (i + 1) segments))
segments_step rank set segments i segment lives h is are =
    ap (λ s. live_with rank set (live_among s)) (drop_more segments i segment h)
    ∙ ap (λ s. live_with rank set (live_in s ++ live_among (drop (i + 1) segments))) (sym is)
    ∙ map-append (λ rule. record { rank = rank; set = set; rule = rule; lines = [] }) (live_in segment) (live_among (drop (i + 1) segments))
    ∙ ap (λ l. l ++ live_with rank set (live_among (drop (i + 1) segments))) (sym are)

pub segments_end : (rank : Rank) (set : List ℕ) (segments : List Segment) (i : ℕ) → length segments ≤ i → live_with rank set (live_among (drop i segments)) ≡ []
segments_end rank set segments i h = ap (λ s. live_with rank set (live_among s)) (drop_all i segments h)
