-- The hits of a block give what all of its rules in force give.
use Rattle.std.proofs.Common.{◌≡◌, ℕ, zero, suc, ◌+◌, ◌<◌, ◌≤◌, List, [], ◌∷◌, length, drop, get_or, Bool, true, false, cond, fold, inl, inr, option_to_list, Option, Some, None, refl, sym, ap, ◌∙◌, subst, arith}
use Rattle.std.specs.Prelude.{slice_get, option_and_then}
use Rattle.std.specs.List.{cons_option, sum_by, Contains}
use Rattle.std.proofs.lemmas.Bool.{cases_Bool}
use Rattle.std.proofs.lemmas.List.{drop_more}
use Rattle.std.proofs.lemmas.List.Sums.{sum_by-cons}
use Rattle.std.proofs.lemmas.Option.{slice_get_cases, slice_get_within}
use Rattle.dnr_base.specs.declared.request.Request.{Request}
use Rattle.dnr_base.specs.declared.rule_name.RuleName.{RuleName}
use Rattle.dnr_spec.specs.Suffixes.{SuffixRule}
use Rattle.explain_spec.specs.Explanation.{frame_of}
use Rattle.rule_match.specs.Tested.{reaches_by}
use Rattle.rule_spec.specs.declared.reach.Reach.{Reach}
use Rattle.rule_spec.specs.Rule.{Rule}
use Rattle.rule_spec.specs.State.{Live, has_number}
use Rattle.generation.specs.declared.block.Block.{Block}
use Rattle.generation.specs.Block.{Standing, listed_in, live_by_some, live_in, live_there, lives_from, lives_in, standing_at}
use Rattle.generation.specs.Hits.{AreHits, acts_by, live_count, part_at, with_hit, with_part_of}
use Rattle.generation.specs.Kept.{Kept, with_candidate, with_lives, with_some}
use Rattle.generation.specs.Refused.{IsPattern}
use Rattle.generation.proofs.Blocks.{Test, block_end, block_step}
use Rattle.generation.proofs.Parts.{by_part, left_out, passed_by, reaches_there, taken_first, taken_once}
use Rattle.generation.proofs.Walked.{candidate_name, pattern_in}
use Rattle.generation.proofs.Walks.{counted, hit_there, hits_serve, sorted_rise}

-- ---- the rule of a hit

own_case : (off : Bool) (own live : Live) → cond off None (Some own) ≡ Some live → own ≡ live
own_case true own live is = cc
own_case false own live is = cc

own_rule : (standing : Option Standing) (rule : Rule) (live : Live) → live_by_some standing rule ≡ Some live → live.rule ≡ rule
own_rule None rule live is = cc
own_rule (Some standing) rule live is =
    sym (ap (λ (l : Live). l.rule) (own_case (has_number standing.off rule.id) (record { rank = standing.rank; set = standing.set; rule = rule; lines = standing.lines }) live is))

-- a rule in force is the one that stands there
pub rule_is : (block : Block) (place : ℕ) (rule : Rule) (live : Live) → live_in block place rule ≡ Some live → live.rule ≡ rule
rule_is block place rule live is = own_rule (standing_at block place) rule live is

module _ (suffixes : List SuffixRule) (request : Request) where
  in_force_case : (o : Option Live) (rule : Rule) (part : ℕ) → ((live : Live) → o ≡ Some live → live.rule ≡ rule) → reaches_there suffixes request o part ≡ true → by_part suffixes request rule part ≡ true
  in_force_case None rule part own h = cc
  in_force_case (Some live) rule part own h = subst (λ (r : Rule). by_part suffixes request r part ≡ true) (own live refl) h

  pub record Reaches (rules : List Rule) (place part : ℕ) : Type 0 where
    pub rule : Rule
    pub there : slice_get rules place ≡ Some rule
    pub reaches : reaches_by suffixes rule request (part_at part) ≡ true

  found_case : (block : Block) (place part : ℕ) (o : Option Rule) → slice_get (listed_in block) place ≡ o → reaches_there suffixes request (option_and_then (live_in block place) o) part ≡ true → Reaches (listed_in block) place part
  found_case block place part None is h = cc
  found_case block place part (Some rule) is h = record {
    rule = rule;
    there = is;
    reaches = in_force_case (live_in block place rule) rule part (λ live so. rule_is block place rule live so) h;
  }

  pub found : (block : Block) (place part : ℕ) → reaches_there suffixes request (live_there block place) part ≡ true → Reaches (listed_in block) place part
  found block place part h = found_case block place part (slice_get (listed_in block) place) refl h

  nothing_past : (block : Block) (place part : ℕ) → length (listed_in block) ≤ place → reaches_there suffixes request (live_there block place) part ≡ false
  nothing_past block place part past =
      elim (cases_Bool (reaches_there suffixes request (live_there block place) part)) [
        | inl reached ↦
            let rule = found block place part reached in
            let within = slice_get_within (listed_in block) place rule.rule rule.there in
            absurd (omega (arith, within, past))
        | inr fails ↦ fails
      ]

  -- ---- all places

  cons_some : (kept : Kept) (o : Option Live) (lives : List Live) → with_lives suffixes request kept (cons_option o lives) ≡ with_lives suffixes request (with_some suffixes request kept o) lives
  cons_some kept None lives = refl
  cons_some kept (Some live) lives = refl

  abbrev with_place : Block → Kept → ℕ → Kept
  with_place block kept place = with_some suffixes request kept (live_there block place)

  abbrev pub behind : Block → ℕ → List Live
  behind block place = lives_from (live_in block) place (drop place (listed_in block))

  places_are : (block : Block) (left place : ℕ) (kept : Kept) → place + left ≡ length (listed_in block) → fold (with_place block) kept (counted place left) ≡ with_lives suffixes request kept (behind block place)
  places_are block zero place kept all =
      sym (ap (with_lives suffixes request kept) (block_end (live_in block) (listed_in block) place (omega (arith, all))))
  places_are block (suc left) place kept all =
      elim (slice_get_cases (listed_in block) place).1 [
        | inl here ↦
            let next = with_place block kept place in
            places_are block left (place + 1) next (omega (arith, all))
            ∙ ap (λ o. with_lives suffixes request (with_some suffixes request kept (option_and_then (live_in block place) o)) (behind block (place + 1))) here.2
            ∙ sym (cons_some kept (live_in block place here.0) (behind block (place + 1)))
            ∙ sym (ap (with_lives suffixes request kept) (block_step (live_in block) (listed_in block) place here.0 here.1 (sym here.3)))
        | inr past ↦ absurd (let over = past.0 in omega (arith, all))
      ]

  pub block_served : (block : Block) (hits : List (ℕ × ℕ)) (kept : Kept) → AreHits (listed_in block) request hits → fold (with_hit suffixes request block) kept hits ≡ with_lives suffixes request kept (lives_in block)
  block_served block hits kept are =
      hits_serve (λ place part. reaches_there suffixes request (live_there block place) part) (with_hit suffixes request block) (with_place block)
      (λ k place part fails. passed_by suffixes request (live_there block place) k part fails)
      (λ k place none. left_out suffixes request (live_there block place) k none)
      (λ k place part here before. taken_first suffixes request (live_there block place) k part here before)
      (λ k place first part here less. taken_once suffixes request (live_there block place) k first part here less)
      kept (length (listed_in block)) 0 hits (sorted_rise hits are.sorted)
      (λ place part more reached. let rule = found block place part reached in hit_there hits place part (are.all suffixes place part rule.rule rule.there rule.reaches))
      (λ place part past. nothing_past block place part (omega (arith, past)))
      ∙ places_are block (length (listed_in block)) 0 kept (omega arith)

-- the same hits of the same request
pub moved : (rules : List Rule) (request other : Request) (hits list : List (ℕ × ℕ)) → request ≡ other → list ≡ hits → AreHits rules request hits → AreHits rules other list
moved rules request other hits list same is are =
    subst (λ (r : Request). AreHits rules r list) same (subst (λ (l : List (ℕ × ℕ)). AreHits rules request l) (sym is) are)

-- ---- its name

name_case : (b : Bool) (new kept : Kept) → new.name ≡ kept.name → (cond b new kept).name ≡ kept.name
name_case true new kept h = h
name_case false new kept h = refl

part_name : (suffixes : List SuffixRule) (request : Request) (part : Reach) (kept : Kept) (o : Option Live) → (with_part_of suffixes request part kept o).name ≡ kept.name
part_name suffixes request part kept None = refl
part_name suffixes request part kept (Some live) =
    name_case (acts_by suffixes request part kept live.rule) (with_candidate kept live (frame_of (Some part))) kept (candidate_name kept live (frame_of (Some part)))

hit_name : (suffixes : List SuffixRule) (request : Request) (block : Block) (kept : Kept) (hit : ℕ × ℕ) → (with_hit suffixes request block kept hit).name ≡ kept.name
hit_name suffixes request block kept hit = part_name suffixes request (part_at hit.1) kept (live_there block hit.0)

-- ---- faults

head_there : (o : Option Live) (lives : List Live) (live : Live) → o ≡ Some live → Contains (cons_option o lives) live
head_there None lives live is = cc
head_there (Some own) lives live is = (0, omega arith, own_is own live is)
  where
    own_is : (own live : Live) → Some own ≡ Some live → own ≡ live
    own_is own live is = cc

tail_there : (o : Option Live) (lives : List Live) (live : Live) → Contains lives live → Contains (cons_option o lives) live
tail_there None lives live has = has
tail_there (Some own) lives live has = let within = has.1 in (suc has.0, omega (arith, within), has.2)

pub in_force_at : (test : Test) (first : ℕ) (rules : List Rule) (place : ℕ) (live : Live)
    → option_and_then (test (first + place)) (slice_get rules place) ≡ Some live → Contains (lives_from test first rules) live
in_force_at test first [] zero live is = cc
in_force_at test first [] (suc place) live is = cc
in_force_at test first (rule ∷ rules) zero live is =
    let a : first ≡ first + 0 = omega arith in
    head_there (test first rule) (lives_from test (first + 1) rules) live (ap (λ n. test n rule) a ∙ is)
in_force_at test first (rule ∷ rules) (suc place) live is =
    let a : first + 1 + place ≡ first + suc place = omega arith in
    tail_there (test first rule) (lives_from test (first + 1) rules) live
    (in_force_at test (first + 1) rules place live (ap (λ n. option_and_then (test n) (slice_get rules place)) a ∙ is))

-- the rule in force at a place is one of the block's
pub block_has : (block : Block) (place : ℕ) (live : Live) → live_there block place ≡ Some live → Contains (lives_in block) live
block_has block place live is =
    let a : 0 + place ≡ place = omega arith in
    in_force_at (live_in block) 0 (listed_in block) place live (ap (λ n. option_and_then (live_in block n) (slice_get (listed_in block) place)) a ∙ is)

one_there : (o : Option Live) (live : Live) → Contains (option_to_list o) live → o ≡ Some live
one_there None live has = absurd (let within = has.1 in omega arith)
one_there (Some own) live (zero, within, is) = ap (λ (l : Live). Some l) is
one_there (Some own) live (suc k, within, is) = absurd (omega (arith, within))

-- the rule of a hit is among those of the block
pub hit_pattern : (block : Block) (place : ℕ) (name start : List ℕ) → name ≡ start → (rule : RuleName) → IsPattern name (option_to_list (live_there block place)) rule → IsPattern start (lives_in block) rule
hit_pattern block place name start same =
    pattern_in name start (option_to_list (live_there block place)) (lives_in block) same
    (λ live has. block_has block place live (one_there (live_there block place) live has))

-- ---- one hit further

hit_next : (hits : List (ℕ × ℕ)) (i : ℕ) (d : ℕ × ℕ) → i < length hits → drop i hits ≡ get_or hits i d ∷ drop (i + 1) hits
hit_next hits i d h = drop_more hits i d h

pub hits_step : (suffixes : List SuffixRule) (request : Request) (block : Block) (hits : List (ℕ × ℕ)) (i : ℕ) (d : ℕ × ℕ) (kept new : Kept)
    → i < length hits → new ≡ with_hit suffixes request block kept (get_or hits i d)
    → fold (with_hit suffixes request block) new (drop (i + 1) hits) ≡ fold (with_hit suffixes request block) kept (drop i hits)
hits_step suffixes request block hits i d kept new h is =
    ap (λ (k : Kept). fold (with_hit suffixes request block) k (drop (i + 1) hits)) is
    ∙ sym (ap (fold (with_hit suffixes request block) kept) (hit_next hits i d h))

pub counts_step : (block : Block) (hits : List (ℕ × ℕ)) (i : ℕ) (d : ℕ × ℕ) → i < length hits
    → sum_by (live_count block) (drop i hits) ≡ live_count block (get_or hits i d) + sum_by (live_count block) (drop (i + 1) hits)
counts_step block hits i d h =
    ap (sum_by (live_count block)) (hit_next hits i d h) ∙ sum_by-cons (live_count block) (get_or hits i d) (drop (i + 1) hits)

pub next_name : (suffixes : List SuffixRule) (request : Request) (block : Block) (kept new : Kept) (hit : ℕ × ℕ) → new ≡ with_hit suffixes request block kept hit → new.name ≡ kept.name
next_name suffixes request block kept new hit is = ap (λ (k : Kept). k.name) is ∙ hit_name suffixes request block kept hit
