-- How many hits there are: no more than keys that rules in force share with the request.
use Rattle.std.proofs.Common.{◌≡◌, ℕ, suc, ◌+◌, ◌<◌, ◌≤◌, List, [], ◌∷◌, ◌++◌, length, drop, get_or, map, filter, Bool, true, false, cond, option_to_list, Option, Some, None, refl, sym, ap, ◌∙◌, subst, arith}
use Rattle.std.specs.Prelude.{option_and_then, slice_get}
use Rattle.std.specs.List.{cons_option, flat_map, sum_by}
use Rattle.std.proofs.lemmas.List.{drop_more, map-append}
use Rattle.std.proofs.lemmas.List.Elements.{filter-append}
use Rattle.std.proofs.lemmas.List.Sums.{sum_by-append, sum_by-cons, sum_by-le-sum_by}
use Rattle.dnr_base.specs.declared.frame.Frame.{Frame}
use Rattle.dnr_base.specs.declared.request.Request.{Request}
use Rattle.dnr_base.specs.Request.{Part, frame_part_of, own_part}
use Rattle.index_spec.specs.declared.key.Key.{Key}
use Rattle.index_spec.specs.Pairs.{is_for_frames, pairs_of_rules, pairs_on, pairs_on_frames, pairs_on_some, rules_for_frames, shared}
use Rattle.key_table.specs.Pairs.{shows}
use Rattle.rule_index.specs.Index.{Index, IsIndexOf, candidates, near}
use Rattle.rule_index.specs.Lists.{IsListIndexOf, ListIndex, for_frames, placed, placed_from}
use Rattle.rule_index.specs.Needs.{needs_of}
use Rattle.rule_index.proofs.Counted.{candidates_are_counted, near_are_counted}
use Rattle.rule_spec.specs.Rule.{Rule}
use Rattle.rule_spec.specs.State.{Extension, Live, live_rules}
use Rattle.generation.specs.declared.block.Block.{Block}
use Rattle.generation.specs.Block.{listed_in, live_in, live_there, lives_from, lives_in}
use Rattle.generation.specs.Hits.{AreHits, frame_hits, hits_by, hits_on, live_count, pairs_by, pairs_in, weight_of, weight_on, weight_on_frames, weight_on_some}
use Rattle.generation.specs.Plain.{rules_by}
use Rattle.generation.proofs.Blocks.{Test}
use Rattle.generation.proofs.Served.{rule_is}

-- ---- of what an index gives

weight_by : (weight : ℕ → ℕ) (places : List ℕ) (part : ℕ) → sum_by (λ hit. weight hit.0) (hits_by places part) ≡ sum_by weight places
weight_by weight [] part = refl
weight_by weight (place ∷ places) part =
    sum_by-cons (λ (hit : ℕ × ℕ). weight hit.0) (place, part) (hits_by places part)
    ∙ ap (λ (n : ℕ). weight place + n) (weight_by weight places part)
    ∙ sym (sum_by-cons weight place places)

less_if : (b : Bool) (n : ℕ) → cond b n 0 ≤ n
less_if true n = omega arith
less_if false n = omega arith

near_weigh : (weight : ℕ → ℕ) (shown : Option ℕ) (rules : List (ℕ × Rule)) (index : Index) (part : Part) → IsIndexOf rules index → sum_by weight (near index shown part) ≤ weight_on weight rules part
near_weigh weight shown rules index part is =
    let counted = near_are_counted weight shown rules index part is in
    let less = sum_by-le-sum_by (λ (one : ℕ × Rule). sum_by (λ key. cond (shows (needs_of one.1.condition) shown) (weight one.0) 0) (shared one.1 part))
    (λ one. sum_by (λ key. weight one.0) (shared one.1 part)) rules
    (λ one. sum_by-le-sum_by (λ (key : Key). cond (shows (needs_of one.1.condition) shown) (weight one.0) 0) (λ key. weight one.0) (shared one.1 part)
    (λ key. less_if (shows (needs_of one.1.condition) shown) (weight one.0))) in
    omega (arith, counted, less)

some_weigh : (weight : ℕ → ℕ) (rules : List (ℕ × Rule)) (index : Index) (number : ℕ) (o : Option Part) → IsIndexOf rules index → sum_by (λ hit. weight hit.0) (hits_on index number o) ≡ weight_on_some weight rules o
some_weigh weight rules index number None is = refl
some_weigh weight rules index number (Some part) is = weight_by weight (candidates index part) number ∙ candidates_are_counted weight rules index part is

frames_weigh : (weight : ℕ → ℕ) (rules : List (ℕ × Rule)) (index : Index) (request : Request) (place : ℕ) (frames : List Frame) → IsIndexOf rules index
    → sum_by (λ hit. weight hit.0) (frame_hits index request place frames) ≡ weight_on_frames weight rules request place frames
frames_weigh weight rules index request place [] is = refl
frames_weigh weight rules index request place (frame ∷ frames) is =
    let a = sum_by-append (λ (hit : ℕ × ℕ). weight hit.0) (hits_on index (place + 1) (frame_part_of request place frame)) (frame_hits index request (place + 1) frames) in
    let b = some_weigh weight rules index (place + 1) (frame_part_of request place frame) is in
    let d = frames_weigh weight rules index request (place + 1) frames is in
    omega (arith, a, b, d)

pub all_weigh : (weight : ℕ → ℕ) (shown : Option ℕ) (rules : List Rule) (index : ListIndex) (request : Request) → IsListIndexOf rules index
    → sum_by (λ hit. weight hit.0) (hits_by (near index.whole shown (own_part request)) 0 ++ frame_hits index.framing request 0 request.frames) ≤ weight_of weight rules request
all_weigh weight shown rules index request is =
    let own = near index.whole shown (own_part request) in
    let a = sum_by-append (λ (hit : ℕ × ℕ). weight hit.0) (hits_by own 0) (frame_hits index.framing request 0 request.frames) in
    let b = weight_by weight own 0 in
    let d = near_weigh weight shown (placed rules) index.whole (own_part request) is.whole in
    let e = frames_weigh weight (for_frames (placed rules)) index.framing request 0 request.frames is.framing in
    omega (arith, a, b, d, e)

-- ---- of the rules that are in force

none_weighs : (keys : List Key) (n : ℕ) → n ≡ 0 → sum_by (λ key. n) keys ≡ 0
none_weighs [] n is = refl
none_weighs (key ∷ keys) n is =
    let a = sum_by-cons (λ (k : Key). n) key keys in
    let b = none_weighs keys n is in
    omega (arith, a, b, is)

each_weighs : (keys : List Key) (n : ℕ) → n ≡ 1 → sum_by (λ key. n) keys ≡ length keys
each_weighs [] n is = refl
each_weighs (key ∷ keys) n is =
    let a = sum_by-cons (λ (k : Key). n) key keys in
    let b = each_weighs keys n is in
    omega (arith, a, b, is)

module _ (weight : ℕ → ℕ) (part : Part) (pick : Rule → Bool) (test : Test) (own : (place : ℕ) (rule : Rule) (live : Live) → test place rule ≡ Some live → live.rule ≡ rule) where
  abbrev weigh : ℕ × Rule → ℕ
  weigh one = sum_by (λ key. weight one.0) (shared one.1 part)

  abbrev pairs : Rule → ℕ
  pairs rule = length (shared rule part)

  one_case : (chosen : Bool) (o : Option Live) (place : ℕ) (rule : Rule) (rest : List (ℕ × Rule)) (lives : List Live) → pick rule ≡ chosen
      → ((live : Live) → o ≡ Some live → live.rule ≡ rule) → weight place ≡ length (option_to_list o)
      → sum_by weigh rest ≡ sum_by pairs (filter pick (rules_by lives))
      → sum_by weigh (cond chosen ((place, rule) ∷ rest) rest) ≡ sum_by pairs (filter pick (rules_by (cons_option o lives)))
  one_case true None place rule rest lives is same heavy all =
      let a = sum_by-cons weigh (place, rule) rest in
      let b = none_weighs (shared rule part) (weight place) heavy in
      omega (arith, a, b, all)
  one_case false None place rule rest lives is same heavy all = all
  one_case true (Some live) place rule rest lives is same heavy all =
      let a = sum_by-cons weigh (place, rule) rest in
      let b = each_weighs (shared rule part) (weight place) heavy in
      let d = sum_by-cons pairs rule (filter pick (rules_by lives)) in
      let e : sum_by pairs (filter pick (live.rule ∷ rules_by lives)) ≡ sum_by pairs (rule ∷ filter pick (rules_by lives)) =
      ap (λ r. sum_by pairs (filter pick (r ∷ rules_by lives))) (same live refl)
      ∙ ap (λ b. sum_by pairs (cond b (rule ∷ filter pick (rules_by lives)) (filter pick (rules_by lives)))) is in
      omega (arith, a, b, d, e, all)
  one_case false (Some live) place rule rest lives is same heavy all =
      all ∙ sym (ap (λ b. sum_by pairs (cond b (rule ∷ filter pick (rules_by lives)) (filter pick (rules_by lives)))) is)
      ∙ sym (ap (λ r. sum_by pairs (filter pick (r ∷ rules_by lives))) (same live refl))

  placed_weigh : (rules : List Rule) (first : ℕ) → ((k : ℕ) (rule : Rule) → slice_get rules k ≡ Some rule → weight (first + k) ≡ length (option_to_list (test (first + k) rule)))
      → sum_by weigh (filter (λ one. pick one.1) (placed_from first rules)) ≡ sum_by pairs (filter pick (rules_by (lives_from test first rules)))
  placed_weigh [] first heavy = refl
  placed_weigh (rule ∷ rules) first heavy =
      let e : first + 0 ≡ first = omega arith in
      let next : (k : ℕ) → first + suc k ≡ (first + 1) + k = λ k. omega arith in
      one_case (pick rule) (test first rule) first rule (filter (λ one. pick one.1) (placed_from (first + 1) rules)) (lives_from test (first + 1) rules) refl
      (λ live is. own first rule live is)
      (subst (λ (n : ℕ). weight n ≡ length (option_to_list (test n rule))) e (heavy 0 rule refl))
      (placed_weigh rules (first + 1) (λ k other is. subst (λ (n : ℕ). weight n ≡ length (option_to_list (test n other))) (next k) (heavy (suc k) other is)))

all_stay : {X : Type 0} (xs : List X) → filter (λ x. true) xs ≡ xs
all_stay [] = refl
all_stay (x ∷ xs) = ap (λ l. x ∷ l) (all_stay xs)

module _ (block : Block) where
  abbrev heavy : ℕ → ℕ
  heavy place = length (option_to_list (live_there block place))

  abbrev in_force : List Rule
  in_force = rules_by (lives_in block)

  heavy_is : (k : ℕ) (rule : Rule) → slice_get (listed_in block) k ≡ Some rule → heavy (0 + k) ≡ length (option_to_list (live_in block (0 + k) rule))
  heavy_is k rule is =
      let e : 0 + k ≡ k = omega arith in
      ap (λ n. length (option_to_list (option_and_then (live_in block (0 + k)) (slice_get (listed_in block) n)))) e
      ∙ ap (λ o. length (option_to_list (option_and_then (live_in block (0 + k)) o))) is

  own_weigh : (part : Part) → weight_on heavy (placed (listed_in block)) part ≡ pairs_on in_force part
  own_weigh part =
      sym (ap (λ rules. weight_on heavy rules part) (all_stay (placed (listed_in block))))
      ∙ placed_weigh heavy part (λ rule. true) (live_in block) (rule_is block) (listed_in block) 0 heavy_is
      ∙ ap (λ rules. pairs_on rules part) (all_stay in_force)

  framing_weigh : (part : Part) → weight_on heavy (for_frames (placed (listed_in block))) part ≡ pairs_on (rules_for_frames in_force) part
  framing_weigh part = placed_weigh heavy part (λ rule. is_for_frames rule.action) (live_in block) (rule_is block) (listed_in block) 0 heavy_is

  some_framing : (o : Option Part) → weight_on_some heavy (for_frames (placed (listed_in block))) o ≡ pairs_on_some (rules_for_frames in_force) o
  some_framing None = refl
  some_framing (Some part) = framing_weigh part

  all_framing : (request : Request) (place : ℕ) (frames : List Frame)
      → weight_on_frames heavy (for_frames (placed (listed_in block))) request place frames ≡ pairs_on_frames (rules_for_frames in_force) request place frames
  all_framing request place [] = refl
  all_framing request place (frame ∷ frames) =
      let a = some_framing (frame_part_of request place frame) in
      let b = all_framing request (place + 1) frames in
      omega (arith, a, b)

  pub found_few : (request : Request) (hits : List (ℕ × ℕ)) → ((weight : ℕ → ℕ) → sum_by (λ hit. weight hit.0) hits ≤ weight_of weight (listed_in block) request) → sum_by (live_count block) hits ≤ pairs_by (lives_in block) request
  found_few request hits few =
      let a = few heavy in
      let b = own_weigh (own_part request) in
      let d = all_framing request 0 request.frames in
      omega (arith, a, b, d)

  pub hits_few : (request : Request) (hits : List (ℕ × ℕ)) → AreHits (listed_in block) request hits → sum_by (live_count block) hits ≤ pairs_by (lives_in block) request
  hits_few request hits are = found_few request hits are.few

-- ---- added up

some_add : (xs ys : List Rule) (o : Option Part) → pairs_on_some (rules_for_frames (xs ++ ys)) o ≡ pairs_on_some (rules_for_frames xs) o + pairs_on_some (rules_for_frames ys) o
some_add xs ys None = refl
some_add xs ys (Some part) =
    ap (λ rules. pairs_on rules part) (filter-append (λ (rule : Rule). is_for_frames rule.action) xs ys)
    ∙ sum_by-append (λ (rule : Rule). length (shared rule part)) (rules_for_frames xs) (rules_for_frames ys)

frames_add : (xs ys : List Rule) (request : Request) (place : ℕ) (frames : List Frame)
    → pairs_on_frames (rules_for_frames (xs ++ ys)) request place frames ≡ pairs_on_frames (rules_for_frames xs) request place frames + pairs_on_frames (rules_for_frames ys) request place frames
frames_add xs ys request place [] = refl
frames_add xs ys request place (frame ∷ frames) =
    let a = some_add xs ys (frame_part_of request place frame) in
    let b = frames_add xs ys request (place + 1) frames in
    omega (arith, a, b)

pub rules_add : (xs ys : List Rule) (request : Request) → pairs_of_rules (xs ++ ys) request ≡ pairs_of_rules xs request + pairs_of_rules ys request
rules_add xs ys request =
    let a = sum_by-append (λ (rule : Rule). length (shared rule (own_part request))) xs ys in
    let b = frames_add xs ys request 0 request.frames in
    omega (arith, a, b)

pub lives_add : (xs ys : List Live) (request : Request) → pairs_by (xs ++ ys) request ≡ pairs_by xs request + pairs_by ys request
lives_add xs ys request =
    ap (λ rules. pairs_of_rules rules request) (map-append (λ (live : Live). live.rule) xs ys)
    ∙ rules_add (map (λ live. live.rule) xs) (map (λ live. live.rule) ys) request

-- those of what is still to be walked, by the chunk that is next
pub rest_pairs : (rest chunk more : List Live) (request : Request) → rest ≡ chunk ++ more → pairs_by rest request ≡ pairs_by chunk request + pairs_by more request
rest_pairs rest chunk more request cut = ap (λ lives. pairs_by lives request) cut ∙ lives_add chunk more request

extensions_pairs : (extension : Extension) (extensions : List Extension) (request : Request) → pairs_in (extension ∷ extensions) request ≡ pairs_by (live_rules extension) request + pairs_in extensions request
extensions_pairs extension extensions request =
    rules_add (map (λ live. live.rule) (live_rules extension)) (flat_map (λ e. map (λ live. live.rule) (live_rules e)) extensions) request

-- the extensions from a place on, by the one that stands there
pub next_pairs : (extensions : List Extension) (i : ℕ) (extension : Extension) (request : Request) → i < length extensions → extension ≡ get_or extensions i extension
    → pairs_in (drop i extensions) request ≡ pairs_by (live_rules extension) request + pairs_in (drop (i + 1) extensions) request
next_pairs extensions i extension request h is =
    ap (λ es. pairs_in es request) (drop_more extensions i extension h ∙ ap (λ e. e ∷ drop (i + 1) extensions) (sym is))
    ∙ extensions_pairs extension (drop (i + 1) extensions) request
