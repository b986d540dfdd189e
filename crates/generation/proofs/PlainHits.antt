-- The hits of a block have the greatest level of its rules in force, and no more rules are tested than keys are shared.
use Rattle.std.proofs.Common.{◌≡◌, ℕ, zero, suc, ◌+◌, ◌<◌, ◌≤◌, List, [], ◌∷◌, ◌++◌, length, drop, Bool, true, false, ◌&&◌, cond, inl, inr, Option, Some, None, is_some, refl, sym, ap, ◌∙◌, subst, arith}
use Rattle.std.specs.Prelude.{IfSome, max, option_and_then, slice_get}
use Rattle.std.specs.List.{Contains, cons_option, sum_by}
use Rattle.std.proofs.lemmas.Bool.{cases_Bool, cond-false}
use Rattle.std.proofs.lemmas.List.Sums.{sum_by-append, sum_by-cons}
use Rattle.std.proofs.lemmas.Option.{slice_get_cases}
use Rattle.dnr_base.specs.declared.frame.Frame.{Frame}
use Rattle.dnr_base.specs.declared.request.Request.{Request}
use Rattle.dnr_base.specs.Request.{frame_part, frame_part_of, own_part}
use Rattle.dnr_base.specs.View.{IsView}
use Rattle.dnr_base.specs.declared.verb.Verb.{Verb}
use Rattle.dnr_spec.specs.Suffixes.{SuffixRule}
use Rattle.rule_index.specs.Index.{near}
use Rattle.rule_index.specs.Lists.{IsListIndexOf, ListIndex}
use Rattle.rule_index.specs.Needs.{shown_by}
use Rattle.rule_match.specs.Tested.{reaches_by, reaches_by_frames}
use Rattle.rule_spec.specs.declared.reach.Reach.{Reach}
use Rattle.rule_spec.specs.declared.reach.Reach.TheVariants.{Own}
use Rattle.rule_spec.specs.Holds.{holds}
use Rattle.rule_spec.specs.Reaches.{by_first, first_frame, holds_on_part, reach_of, through_frames}
use Rattle.rule_spec.specs.Rule.{Action, Rule, verb_of}
use Rattle.rule_spec.specs.Rule as action
use Rattle.rule_spec.specs.State.{Live}
use Rattle.generation.specs.declared.block.Block.{Block}
use Rattle.generation.specs.Block.{listed_in, live_in, live_there, lives_in}
use Rattle.generation.specs.Hits.{frame_hits, hits_by, hits_on, live_count, pairs_by, part_at}
use Rattle.generation.specs.Plain.{are_plain, greatest, hit_level, hits_level, is_plain_rule, level, level_at, level_by, level_if, level_of, level_there, may_decide, rules_by}
use Rattle.generation.proofs.Blocks.{block_end, block_step}
use Rattle.generation.proofs.Gathered.{all_there, frames_step}
use Rattle.generation.proofs.Pairs.{all_weigh, found_few}
use Rattle.generation.proofs.Parts.{by_part, on_frame, reached, reaches_there}
use Rattle.generation.proofs.PlainRules.{plain_there}
use Rattle.generation.proofs.Served.{behind, block_has, found}

-- ---- how a rule that reaches does it

record ByPart (suffixes : List SuffixRule) (request : Request) (rule : Rule) : Type 0 where
  part : ℕ
  so : by_part suffixes request rule part ≡ true

module _ (suffixes : List SuffixRule) (request : Request) (rule : Rule) where
  on_first : (frames : List Frame) (place : ℕ) → is_some (first_frame suffixes rule request place frames) ≡ true → (k : ℕ) × (on_frame suffixes request rule place frames k ≡ true)
  on_first [] place h = cc
  on_first (frame ∷ frames) place h =
      let e : place ≡ place + 0 = omega arith in
      let here = holds_on_part suffixes rule (frame_part_of request place frame) in
      elim (cases_Bool here) [
        | inl holds ↦ (0, subst (λ (n : ℕ). holds_on_part suffixes rule (frame_part_of request n frame) ≡ true) e holds)
        | inr fails ↦
            let more = on_first frames (place + 1) (sym (ap is_some (cond-false here (Some place) (first_frame suffixes rule request (place + 1) frames) fails)) ∙ h) in
            let next : (place + 1) + more.0 ≡ place + suc more.0 = omega arith in
            (suc more.0, subst (λ (n : ℕ). holds_on_part suffixes rule (option_and_then (frame_part_of request n) (slice_get frames more.0)) ≡ true) next more.1)
      ]

  some_first : (o : Option ℕ) → is_some (by_first o) ≡ true → is_some o ≡ true
  some_first None h = h
  some_first (Some place) h = refl

  by_frames : (action : Action) → is_some (through_frames suffixes rule request action) ≡ true → (k : ℕ) × ((reaches_by_frames action && holds_on_part suffixes rule (frame_part request k)) ≡ true)
  by_frames action.block h = cc
  by_frames (action.redirect target) h = cc
  by_frames action.allow h = cc
  by_frames action.upgrade_scheme h = cc
  by_frames (action.modify_headers first second) h = cc
  by_frames action.allow_all_requests h =
      let first = on_first request.frames 0 (some_first (first_frame suffixes rule request 0 request.frames) h) in
      let e : 0 + first.0 ≡ first.0 = omega arith in
      (first.0, subst (λ (n : ℕ). holds_on_part suffixes rule (option_and_then (frame_part_of request n) (slice_get request.frames first.0)) ≡ true) e first.1)

  by_some_part : is_some (reach_of suffixes rule request) ≡ true → ByPart suffixes request rule
  by_some_part h =
      let own = holds suffixes rule (own_part request) in
      elim (cases_Bool own) [
        | inl holds ↦ record { part = 0; so = holds }
        | inr fails ↦
            let framed = by_frames rule.action (sym (ap is_some (cond-false own (Some Own) (through_frames suffixes rule request rule.action) fails)) ∙ h) in
            record { part = suc framed.0; so = framed.1 }
      ]

-- ---- levels

level_more : (a b : Bool) (request : Request) (rule : Rule) → (a ≡ true → b ≡ true) → level_if a request rule ≤ level_if b request rule
level_more false b request rule h = omega arith
level_more true b request rule h = ap_le (sym (ap (λ c. level_if c request rule) (h refl)))
  where
    ap_le : {m n : ℕ} → m ≡ n → m ≤ n
    ap_le e = omega (arith, e)

level_none : (a : Bool) (request : Request) (rule : Rule) → a ≡ false → level_if a request rule ≡ 0
level_none a request rule fails = ap (λ c. level_if c request rule) fails

pub level_there_is : (suffixes : List SuffixRule) (request : Request) (rule : Rule) (part : ℕ) → level_at suffixes request rule (part_at part) ≤ level suffixes request rule
level_there_is suffixes request rule part =
    level_more (by_part suffixes request rule part) (is_some (reach_of suffixes rule request)) request rule (reached suffixes request rule part)

-- ---- lists

pub hits_add : (suffixes : List SuffixRule) (request : Request) (block : Block) (xs ys : List (ℕ × ℕ)) → hits_level suffixes request block (xs ++ ys) ≡ max (hits_level suffixes request block xs) (hits_level suffixes request block ys)
hits_add suffixes request block [] ys = omega arith
hits_add suffixes request block (x ∷ xs) ys = let more = hits_add suffixes request block xs ys in omega (arith, more)

hit_within : (suffixes : List SuffixRule) (request : Request) (block : Block) (hits : List (ℕ × ℕ)) (hit : ℕ × ℕ) → Contains hits hit → hit_level suffixes request block hit ≤ hits_level suffixes request block hits
hit_within suffixes request block [] hit has = absurd (let within = has.1 in omega arith)
hit_within suffixes request block (own ∷ hits) hit (zero, within, is) = let same = ap (hit_level suffixes request block) is in omega (arith, same)
hit_within suffixes request block (own ∷ hits) hit (suc k, within, is) =
    let more = hit_within suffixes request block hits hit (k, omega (arith, within), is) in omega (arith, more)

rule_within : (suffixes : List SuffixRule) (request : Request) (rules : List Rule) (rule : Rule) → Contains rules rule → level suffixes request rule ≤ greatest suffixes request rules
rule_within suffixes request [] rule has = absurd (let within = has.1 in omega arith)
rule_within suffixes request (own ∷ rules) rule (zero, within, is) = let same = ap (level suffixes request) is in omega (arith, same)
rule_within suffixes request (own ∷ rules) rule (suc k, within, is) =
    let more = rule_within suffixes request rules rule (k, omega (arith, within), is) in omega (arith, more)

rule_of : (lives : List Live) (live : Live) → Contains lives live → Contains (rules_by lives) live.rule
rule_of [] live has = absurd (let within = has.1 in omega arith)
rule_of (own ∷ lives) live (zero, within, is) = (0, omega arith, ap (λ (l : Live). l.rule) is)
rule_of (own ∷ lives) live (suc k, within, is) =
    let more = rule_of lives live (k, omega (arith, within), is) in
    let inside = more.1 in
    (suc more.0, omega (arith, inside), more.2)

-- the rule in force at a place is one of the block's
rule_there : (block : Block) (place : ℕ) (live : Live) → live_there block place ≡ Some live → Contains (rules_by (lives_in block)) live.rule
rule_there block place live is =
    rule_of (lives_in block) live (block_has block place live is)

pub live_is_plain : (block : Block) (place : ℕ) (live : Live) → are_plain (rules_by (lives_in block)) ≡ true → live_there block place ≡ Some live → is_plain_rule live.rule ≡ true
live_is_plain block place live plain is = plain_there (rules_by (lives_in block)) live.rule plain (rule_there block place live is)

-- ---- no hit is above the rules

hit_case : (suffixes : List SuffixRule) (request : Request) (block : Block) (place part : ℕ) (o : Option Live) → live_there block place ≡ o → hit_level suffixes request block (place, part) ≤ greatest suffixes request (rules_by (lives_in block))
hit_case suffixes request block place part None is = let none = ap (λ o. level_there suffixes request o (part_at part)) is in omega (arith, none)
hit_case suffixes request block place part (Some live) is =
    let same = ap (λ o. level_there suffixes request o (part_at part)) is in
    let more = level_there_is suffixes request live.rule part in
    let within = rule_within suffixes request (rules_by (lives_in block)) live.rule (rule_there block place live is) in
    omega (arith, same, more, within)

hits_below : (suffixes : List SuffixRule) (request : Request) (block : Block) (hits : List (ℕ × ℕ)) → hits_level suffixes request block hits ≤ greatest suffixes request (rules_by (lives_in block))
hits_below suffixes request block [] = omega arith
hits_below suffixes request block (hit ∷ hits) =
    let first = hit_case suffixes request block hit.0 hit.1 (live_there block hit.0) refl in
    let more = hits_below suffixes request block hits in
    omega (arith, first, more)

-- ---- each rule has a hit

module _ (suffixes : List SuffixRule) (request : Request) (block : Block) (n : ℕ) (each : (place : ℕ) (live : Live) → live_there block place ≡ Some live → level suffixes request live.rule ≤ n) where
  cons_below : (o : Option Live) (lives : List Live) → ((live : Live) → o ≡ Some live → level suffixes request live.rule ≤ n) → greatest suffixes request (rules_by lives) ≤ n → greatest suffixes request (rules_by (cons_option o lives)) ≤ n
  cons_below None lives own more = more
  cons_below (Some live) lives own more = let first = own live refl in omega (arith, first, more)

  behind_below : (left place : ℕ) → place + left ≡ length (listed_in block) → greatest suffixes request (rules_by (behind suffixes request block place)) ≤ n
  behind_below zero place all =
      let none = ap (λ lives. greatest suffixes request (rules_by lives)) (block_end (live_in block) (listed_in block) place (omega (arith, all))) in
      omega (arith, none)
  behind_below (suc left) place all =
      elim (slice_get_cases (listed_in block) place).1 [
        | inl here ↦
            let step = ap (λ lives. greatest suffixes request (rules_by lives)) (block_step (live_in block) (listed_in block) place here.0 here.1 (sym here.3)) in
            let more = cons_below (live_in block place here.0) (behind suffixes request block (place + 1))
            (λ live is. each place live (ap (option_and_then (live_in block place)) here.2 ∙ is))
            (behind_below left (place + 1) (omega (arith, all))) in
            omega (arith, step, more)
        | inr past ↦ absurd (let over = past.0 in omega (arith, all))
      ]

level_case : (suffixes : List SuffixRule) (request : Request) (block : Block) (hits : List (ℕ × ℕ))
    → ((place part : ℕ) (rule : Rule) → slice_get (listed_in block) place ≡ Some rule → reaches_by suffixes rule request (part_at part) ≡ true → Contains hits (place, part))
    → (place : ℕ) (live : Live) → live_there block place ≡ Some live → level suffixes request live.rule ≤ hits_level suffixes request block hits
level_case suffixes request block hits all place live is =
    elim (cases_Bool (is_some (reach_of suffixes live.rule request))) [
      | inr fails ↦ let none = level_none (is_some (reach_of suffixes live.rule request)) request live.rule fails in omega (arith, none)
      | inl reaches ↦
          let by = by_some_part suffixes request live.rule reaches in
          let there = found suffixes request block place by.part (ap (λ o. reaches_there suffixes request o by.part) is ∙ by.so) in
          let within = hit_within suffixes request block hits (place, by.part) (all place by.part there.rule there.there there.reaches) in
          let same = ap (λ o. level_there suffixes request o (part_at by.part)) is in
          let here : level_at suffixes request live.rule (part_at by.part) ≡ level suffixes request live.rule =
          ap (λ b. level_if b request live.rule) (by.so ∙ sym reaches) in
          omega (arith, within, same, here)
    ]

pub block_level : (suffixes : List SuffixRule) (request : Request) (block : Block) (index : ListIndex)
    → IsListIndexOf (listed_in block) index → IsView request.view → ((n : ℕ) → n < length request.frames → IfSome (frame_part request n) (λ p. IsView p.view))
    → hits_level suffixes request block (hits_by (near index.whole (Some (shown_by (own_part request))) (own_part request)) 0 ++ frame_hits index.framing request 0 request.frames)
    ≡ greatest suffixes request (rules_by (lives_in block))
block_level suffixes request block index is_index view views =
    let hits = hits_by (near index.whole (Some (shown_by (own_part request))) (own_part request)) 0 ++ frame_hits index.framing request 0 request.frames in
    let below = hits_below suffixes request block hits in
    let above = behind_below suffixes request block (hits_level suffixes request block hits)
    (level_case suffixes request block hits (λ place part rule there reaches. all_there (listed_in block) index request suffixes place part rule is_index view views there reaches))
    (length (listed_in block)) 0 (omega arith) in
    omega (arith, below, above)

-- ---- one rule

pub passed_over : (suffixes : List SuffixRule) (request : Request) (rule : Rule) (part : Reach) → verb_of rule.action ≡ None → level_at suffixes request rule part ≡ 0
passed_over suffixes request rule part none =
    ap (λ o. cond (reaches_by suffixes rule request part && may_decide rule.action request.view) (level_by o rule.priority) 0) none
    ∙ same_any (reaches_by suffixes rule request part && may_decide rule.action request.view) 0
  where
    same_any : (b : Bool) (n : ℕ) → cond b n n ≡ n
    same_any true n = refl
    same_any false n = refl

at_most : (b : Bool) (n : ℕ) → cond b n 0 ≤ n
at_most true n = omega arith
at_most false n = omega arith

pub no_more : (suffixes : List SuffixRule) (request : Request) (rule : Rule) (part : Reach) (verb : Verb) → verb_of rule.action ≡ Some verb → level_at suffixes request rule part ≤ level_of rule.priority verb
no_more suffixes request rule part verb some =
    let told = ap (λ o. level_by o rule.priority) some in
    let less = at_most (reaches_by suffixes rule request part && may_decide rule.action request.view) (level_by (verb_of rule.action) rule.priority) in
    omega (arith, told, less)

and_no : (b : Bool) → (b && false) ≡ false
and_no true = refl
and_no false = refl

pub may_not : (suffixes : List SuffixRule) (request : Request) (rule : Rule) (part : Reach) → may_decide rule.action request.view ≡ false → level_at suffixes request rule part ≡ 0
may_not suffixes request rule part fails =
    ap (λ b. cond (reaches_by suffixes rule request part && b) (level_by (verb_of rule.action) rule.priority) 0) fails
    ∙ ap (λ b. cond b (level_by (verb_of rule.action) rule.priority) 0) (and_no (reaches_by suffixes rule request part))

pub reaches_not : (suffixes : List SuffixRule) (request : Request) (rule : Rule) (part : Reach) → reaches_by suffixes rule request part ≡ false → level_at suffixes request rule part ≡ 0
reaches_not suffixes request rule part fails = ap (λ b. level_if b request rule) fails

pub decides_by : (suffixes : List SuffixRule) (request : Request) (rule : Rule) (part : Reach) (verb : Verb) → verb_of rule.action ≡ Some verb → may_decide rule.action request.view ≡ true → reaches_by suffixes rule request part ≡ true
    → level_at suffixes request rule part ≡ level_of rule.priority verb
decides_by suffixes request rule part verb some may reaches =
    ap (λ b. level_if b request rule) reaches
    ∙ ap (λ b. cond b (level_by (verb_of rule.action) rule.priority) 0) may
    ∙ ap (λ o. level_by o rule.priority) some

pub ruleset one_rule = (passed_over, no_more, may_not, reaches_not, decides_by)

-- ---- one hit further

module _ (suffixes : List SuffixRule) (request : Request) (block : Block) where
  pub places_next : (places rest : List ℕ) (place part best new total : ℕ) → places ≡ place ∷ rest
      → new ≡ max best (hit_level suffixes request block (place, part))
      → max best (hits_level suffixes request block (hits_by places part)) ≡ total
      → max new (hits_level suffixes request block (hits_by rest part)) ≡ total
  places_next places rest place part best new total is told so_far =
      let cut = ap (λ l. hits_level suffixes request block (hits_by l part)) is in
      omega (arith, cut, told, so_far)

  pub frames_next : (index : ListIndex) (place best new total : ℕ) → place < length request.frames
      → new ≡ max best (hits_level suffixes request block (hits_on index.framing (place + 1) (frame_part request place)))
      → max best (hits_level suffixes request block (frame_hits index.framing request place (drop place request.frames))) ≡ total
      → max new (hits_level suffixes request block (frame_hits index.framing request (place + 1) (drop (place + 1) request.frames))) ≡ total
  frames_next index place best new total within told so_far =
      let cut = ap (hits_level suffixes request block) (frames_step index.framing request [] place within) in
      let add = hits_add suffixes request block (hits_on index.framing (place + 1) (frame_part request place)) (frame_hits index.framing request (place + 1) (drop (place + 1) request.frames)) in
      omega (arith, cut, add, told, so_far)

  pub both_levels : (index : ListIndex) (best own new : ℕ)
      → IsListIndexOf (listed_in block) index → IsView request.view → ((n : ℕ) → n < length request.frames → IfSome (frame_part request n) (λ p. IsView p.view))
      → own ≡ max best (hits_level suffixes request block (hits_by (near index.whole (Some (shown_by (own_part request))) (own_part request)) 0))
      → new ≡ max own (hits_level suffixes request block (frame_hits index.framing request 0 request.frames))
      → new ≡ max best (greatest suffixes request (rules_by (lives_in block)))
  both_levels index best own new is_index view views first second =
      let hits = hits_by (near index.whole (Some (shown_by (own_part request))) (own_part request)) 0 in
      let add = hits_add suffixes request block hits (frame_hits index.framing request 0 request.frames) in
      let all = block_level suffixes request block index is_index view views in
      omega (arith, add, all, first, second)

  pub places_count : (places rest : List ℕ) (place part steps new total : ℕ) → places ≡ place ∷ rest
      → new ≤ steps + live_count block (place, part)
      → steps + sum_by (live_count block) (hits_by places part) ≤ total
      → new + sum_by (live_count block) (hits_by rest part) ≤ total
  places_count places rest place part steps new total is told so_far =
      let cut = ap (λ l. sum_by (live_count block) (hits_by l part)) is in
      let add = sum_by-cons (live_count block) (place, part) (hits_by rest part) in
      omega (arith, cut, add, told, so_far)

  pub frames_count : (index : ListIndex) (place steps new total : ℕ) → place < length request.frames
      → new ≤ steps + sum_by (live_count block) (hits_on index.framing (place + 1) (frame_part request place))
      → steps + sum_by (live_count block) (frame_hits index.framing request place (drop place request.frames)) ≤ total
      → new + sum_by (live_count block) (frame_hits index.framing request (place + 1) (drop (place + 1) request.frames)) ≤ total
  frames_count index place steps new total within told so_far =
      let cut = ap (sum_by (live_count block)) (frames_step index.framing request [] place within) in
      let add = sum_by-append (live_count block) (hits_on index.framing (place + 1) (frame_part request place)) (frame_hits index.framing request (place + 1) (drop (place + 1) request.frames)) in
      omega (arith, cut, add, told, so_far)

  pub both_counts : (index : ListIndex) (steps own new : ℕ) → IsListIndexOf (listed_in block) index
      → own ≤ steps + sum_by (live_count block) (hits_by (near index.whole (Some (shown_by (own_part request))) (own_part request)) 0)
      → new ≤ own + sum_by (live_count block) (frame_hits index.framing request 0 request.frames)
      → new ≤ steps + pairs_by (lives_in block) request
  both_counts index steps own new is_index first second =
      let hits = hits_by (near index.whole (Some (shown_by (own_part request))) (own_part request)) 0 in
      let frames = frame_hits index.framing request 0 request.frames in
      let add = sum_by-append (live_count block) hits frames in
      let few = found_few block request (hits ++ frames) (λ weight. all_weigh weight (Some (shown_by (own_part request))) (listed_in block) index request is_index) in
      omega (arith, add, few, first, second)
