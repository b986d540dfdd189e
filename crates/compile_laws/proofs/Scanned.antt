-- What the scan decides where the extension of a list is the only one.
use Rattle.std.proofs.Common.{◌≡◌, ℕ, ◌+◌, ◌<◌, List, [], ◌∷◌, ◌++◌, map, Bool, true, false, cond, not, ◌||◌, ◌&&◌, Option, Some, None, option_map, inl, inr, refl, sym, ap, ◌∙◌, subst, ⊎_elim, arith, append-nil}
use Rattle.std.specs.Prelude.{codes, filter, nat_lt, ◌==◌}
use Rattle.std.specs.List.{list_any, find, filter_map, AllByRecursion, cons_option}
use Rattle.std.proofs.lemmas.Bool.{and_parts, and_from, or_from, not_from_false, not-true, cond-true, cond-false, true≢false, false_from_ne_true}
use Rattle.std.proofs.lemmas.Bool.Decides.{nat_tests}
use Rattle.dnr_base.specs.declared.candidate.Candidate.{Candidate}
use Rattle.dnr_base.specs.declared.rank.Rank.TheVariants.{Static}
use Rattle.dnr_base.specs.declared.request.Request.{Request}
use Rattle.dnr_base.specs.declared.rule_name.RuleName.{RuleName}
use Rattle.dnr_base.specs.declared.verb.Verb.{Verb}
use Rattle.dnr_base.specs.declared.verb.Verb.TheVariants.{Allow, AllowAllRequests, Block, UpgradeScheme, Redirect}
use Rattle.dnr_spec.specs.Order.{is_before, place_of, rank_of, beats, prevails}
use Rattle.dnr_spec.specs.Suffixes.{SuffixRule}
use Rattle.precedence.specs.Laws.{IsOrder}
use Rattle.precedence.proofs.Orders.{beats_is_order}
use Rattle.rule_spec.specs.declared.outcome.Outcome.{Outcome}
use Rattle.rule_spec.specs.declared.outcome.Outcome.TheVariants as outcome
use Rattle.rule_spec.specs.Rule.{Rule, verb_of}
use Rattle.rule_spec.specs.State.{Extension, State, Live, with_lines, live_in_set, live_rules}
use Rattle.rule_spec.specs.Scan.{is_candidate, candidate_of, deciding_of, unbeaten_of, winner_of, Decision, decision_of, list_of, decisions_from, winner_seen, deciding, NamedOp, with_ops, named_ops, decided, verdict_by, scan}
use Rattle.compile_spec.specs.Compiled.{Effect, blocks, allows, exempts, action_of, priority_of, Draft, drafts_in, CompiledRule, rule_of, with_ids, rules_in, origins_in, compiled}
use Rattle.compile_spec.specs.Installed.{list_extension}
use Rattle.compile_laws.specs.Laws.{ListsBlockWhatTheySay}
use Rattle.compile_laws.proofs.Lists.{Has, In, true_or_false, has_in, in_has, each_in, any_in, any_out, none_in, none_out}
use Rattle.compile_laws.proofs.Reached.{reaches_as, candidate_is}
use Rattle.compile_laws.proofs.Said.{same_effect, does, says_by_rules}

some_same : {X : Type 0} {x y : X} → Some x ≡ Some y → x ≡ y
some_same h = cc

-- ---- the rules in force

abbrev live_as : CompiledRule → Live
live_as one = record { rank = Static 0; set = codes "list"; rule = one.rule; lines = one.lines }

lives_in : (rules : List Rule) (origins : List (List ℕ)) (ones : List CompiledRule)
    → filter_map (live_in_set 0 (record { id = codes "list"; enabled = true; rules = rules; origins = origins; disabled = [] })) (with_lines (rules_in ones) (origins_in ones)) ≡ map live_as ones
lives_in rules origins [] = refl
lives_in rules origins (one ∷ ones) = ap (λ (lives : List Live). live_as one ∷ lives) (lives_in rules origins ones)

lives_of : (name : List ℕ) (ones : List CompiledRule) → live_rules (list_extension name ones) ≡ map live_as ones
lives_of name ones = append-nil _ ∙ lives_in (rules_in ones) (origins_in ones) ones

-- ---- the rules that may decide

abbrev verb_as : Effect → Verb
verb_as blocks = Block
verb_as allows = Allow
verb_as exempts = AllowAllRequests

decides_as : (live : Live) (effect : Effect) → option_map {U = Live × Candidate} (λ verb. (live, candidate_of live verb)) (verb_of (action_of effect)) ≡ Some (live, candidate_of live (verb_as effect))
decides_as live blocks = refl
decides_as live allows = refl
decides_as live exempts = refl

-- of this draft
pub record IsOf (draft : Draft) (one : Live × Candidate) : Type 0 where
  pub priority : one.1.priority ≡ priority_of draft.effect
  pub verb : one.1.action ≡ verb_as draft.effect

-- one rule more
each_more : (P : Live × Candidate → Type 0) (b : Bool) (live : Live) (one : Live × Candidate) (lives : List Live) → deciding_of live ≡ Some one → (b ≡ true → P one)
    → AllByRecursion P (filter_map deciding_of lives) → AllByRecursion P (filter_map deciding_of (cond b (live ∷ lives) lives))
each_more P true live one lives is p h = subst (λ (o : Option (Live × Candidate)). AllByRecursion P (cons_option o (filter_map deciding_of lives))) (sym is) (p refl, h)
each_more P false live one lives is p h = h

has_this : (P : Live × Candidate → Type 0) (b : Bool) (live : Live) (one : Live × Candidate) (lives : List Live) → deciding_of live ≡ Some one → b ≡ true → P one
    → Has P (filter_map deciding_of (cond b (live ∷ lives) lives))
has_this P true live one lives is e p = subst (λ (o : Option (Live × Candidate)). Has P (cons_option o (filter_map deciding_of lives))) (sym is) (inl p)
has_this P false live one lives is e p = cc

has_that : (P : Live × Candidate → Type 0) (b : Bool) (live : Live) (one : Live × Candidate) (lives : List Live) → deciding_of live ≡ Some one
    → Has P (filter_map deciding_of lives) → Has P (filter_map deciding_of (cond b (live ∷ lives) lives))
has_that P true live one lives is h = subst (λ (o : Option (Live × Candidate)). Has P (cons_option o (filter_map deciding_of lives))) (sym is) (inr h)
has_that P false live one lives is h = h

module _ (suffixes : List SuffixRule) (name : List ℕ) (request : Request) where
  -- those of these rules that may decide
  abbrev may_decide : List Live → List (Live × Candidate)
  may_decide lives = filter_map deciding_of (filter (λ live. is_candidate suffixes name true request live.rule) lives)

  abbrev numbered : ℕ → List Draft → List (Live × Candidate)
  numbered id drafts = may_decide (map live_as (with_ids id drafts))

  abbrev live_at : ℕ → Draft → Live
  live_at id draft = live_as (record { rule = rule_of id draft; lines = draft.standing.lines })

  abbrev one_at : ℕ → Draft → Live × Candidate
  one_at id draft = (live_at id draft, candidate_of (live_at id draft) (verb_as draft.effect))

  is_of : (id : ℕ) (draft : Draft) → IsOf draft (one_at id draft)
  is_of id draft = record { priority = refl; verb = refl }

  -- each comes from a draft that reaches the request
  each_decides : (P : Live × Candidate → Type 0) (id : ℕ) (drafts : List Draft)
      → ((draft : Draft) → In draft drafts → reaches_as suffixes request draft ≡ true → (one : Live × Candidate) → IsOf draft one → P one) → AllByRecursion P (numbered id drafts)
  each_decides P id [] f = tt
  each_decides P id (draft ∷ drafts) f =
      each_more P (is_candidate suffixes name true request (rule_of id draft)) (live_at id draft) (one_at id draft)
      (filter (λ live. is_candidate suffixes name true request live.rule) (map live_as (with_ids (id + 1) drafts))) (decides_as (live_at id draft) draft.effect)
      (λ e. f draft (inl refl) (sym (candidate_is suffixes name request id draft) ∙ e) (one_at id draft) (is_of id draft))
      (each_decides P (id + 1) drafts (λ other i. f other (inr i)))

  -- and each such draft gives one
  one_decides : (P : Live × Candidate → Type 0) (id : ℕ) (drafts : List Draft) (draft : Draft) → In draft drafts → reaches_as suffixes request draft ≡ true
      → ((one : Live × Candidate) → IsOf draft one → P one) → Has P (numbered id drafts)
  one_decides P id [] draft i h f = absurd i
  one_decides P id (first ∷ drafts) draft (inl same) h f =
      has_this P (is_candidate suffixes name true request (rule_of id first)) (live_at id first) (one_at id first)
      (filter (λ live. is_candidate suffixes name true request live.rule) (map live_as (with_ids (id + 1) drafts))) (decides_as (live_at id first) first.effect)
      (candidate_is suffixes name request id first ∙ ap (reaches_as suffixes request) same ∙ h)
      (f (one_at id first) (subst (λ (d : Draft). IsOf d (one_at id first)) same (is_of id first)))
  one_decides P id (first ∷ drafts) draft (inr i) h f =
      has_that P (is_candidate suffixes name true request (rule_of id first)) (live_at id first) (one_at id first)
      (filter (λ live. is_candidate suffixes name true request live.rule) (map live_as (with_ids (id + 1) drafts))) (decides_as (live_at id first) first.effect)
      (one_decides P (id + 1) drafts draft i h f)

-- ---- the one that no other beats

found_one : {X : Type 0} (test : X → Bool) (xs : List X) (x : X) → find test xs ≡ Some x → In x xs × (test x ≡ true)
found_one test [] x h = cc
found_one test (y ∷ ys) x h =
    ⊎_elim
    (λ yes. let same : y ≡ x = some_same (sym (cond-true (test y) (Some y) (find test ys) yes) ∙ h) in (inl same, ap test (sym same) ∙ yes))
    (λ no. let rest = found_one test ys x (sym (cond-false (test y) (Some y) (find test ys) no) ∙ h) in (inr rest.0, rest.1))
    (true_or_false (test y))

finds_one : {X : Type 0} (test : X → Bool) (xs : List X) → Has (λ x. test x ≡ true) xs → (x : X) × (find test xs ≡ Some x)
finds_one test [] h = absurd h
finds_one test (y ∷ ys) (inl h) = (y, cond-true (test y) (Some y) (find test ys) h)
finds_one test (y ∷ ys) (inr h) =
    let rest = finds_one test ys h in
    ⊎_elim (λ yes. (y, cond-true (test y) (Some y) (find test ys) yes)) (λ no. (rest.0, cond-false (test y) (Some y) (find test ys) no ∙ rest.1)) (true_or_false (test y))

module _ {X : Type 0} (goes_before : X → X → Bool) (order : IsOrder goes_before) where
  not_itself : (x : X) → goes_before x x ≡ false
  not_itself x = false_from_ne_true (goes_before x x) (λ h. true≢false (sym h ∙ order.one_way x x h))

  some_unbeaten : (x : X) (xs : List X) → (one : X) × In one (x ∷ xs) × (list_any (λ other. goes_before other one) (x ∷ xs) ≡ false)
  some_unbeaten x [] = (x, inl refl, or_from (goes_before x x) false (not_itself x) refl)
  some_unbeaten x (next ∷ xs) =
      let rest = some_unbeaten next xs in
      ⊎_elim
      (λ better. (
        x,
        inl refl,
        or_from (goes_before x x) (list_any (λ other. goes_before other x) (next ∷ xs)) (not_itself x) (none_out (λ other. goes_before other x) (next ∷ xs) (λ other i. false_from_ne_true (goes_before other x) (λ h.
            true≢false (sym (order.between other x rest.0 h (order.one_way x rest.0 better)) ∙ none_in (λ o. goes_before o rest.0) other (next ∷ xs) rest.2 i)))),
      ))
      (λ no_better. (rest.0, inr rest.1, or_from (goes_before x rest.0) (list_any (λ other. goes_before other rest.0) (next ∷ xs)) no_better rest.2))
      (true_or_false (goes_before x rest.0))

  unbeaten_there : (xs : List X) → Has (λ x. Unit {0}) xs → (x : X) × (unbeaten_of goes_before xs ≡ Some x)
  unbeaten_there [] h = absurd h
  unbeaten_there (x ∷ xs) h =
      let one = some_unbeaten x xs in
      finds_one (λ o. not (list_any (λ other. goes_before other o) (x ∷ xs))) (x ∷ xs)
      (in_has (λ o. not (list_any (λ other. goes_before other o) (x ∷ xs)) ≡ true) one.0 (x ∷ xs) one.1 (not_from_false (list_any (λ other. goes_before other one.0) (x ∷ xs)) one.2))

  is_unbeaten : (xs : List X) (x : X) → unbeaten_of goes_before xs ≡ Some x → In x xs × ((other : X) → In other xs → goes_before other x ≡ false)
  is_unbeaten xs x h =
      let p = found_one (λ o. not (list_any (λ other. goes_before other o) xs)) xs x h in
      (p.0, λ other i. none_in (λ o. goes_before o x) other xs (not-true (list_any (λ o. goes_before o x) xs) p.1) i)

abbrev goes_first : Live × Candidate → Live × Candidate → Bool
goes_first a b = beats a.1 b.1

first_is_order : IsOrder goes_first
first_is_order = record { one_way = λ a b. beats_is_order.one_way a.1 b.1; between = λ a b c. beats_is_order.between a.1 b.1 c.1 }

-- a greater priority goes first
by_priority : (a b : Candidate) → b.priority < a.priority → beats a b ≡ true
by_priority a b more =
    let apart : (b.priority == a.priority) ≡ false = grind (arith, nat_tests) in
    let less : nat_lt b.priority a.priority ≡ true = grind (arith, nat_tests) in
    cond-false (b.priority == a.priority) (is_before ((place_of a.action, place_of b.action) ∷ (rank_of a.rank, rank_of b.rank) ∷ (a.id, b.id) ∷ [])) (nat_lt b.priority a.priority) apart ∙ less

-- ---- one extension alone

prevails_not : (verb : Verb) → prevails (record { action = verb; age = 0 }) (record { action = verb; age = 0 }) ≡ false
prevails_not Allow = refl
prevails_not AllowAllRequests = refl
prevails_not Block = refl
prevails_not UpgradeScheme = refl
prevails_not Redirect = refl

only_decides : (name : List ℕ) (winner : Option (Live × Candidate))
    → unbeaten_of (λ a b. prevails (winner_seen a) (winner_seen b)) (list_of (option_map (decision_of name 0) winner) ++ []) ≡ option_map (decision_of name 0) winner
only_decides name None = refl
only_decides name (Some one) =
    cond-true (not (prevails (winner_seen (decision_of name 0 one)) (winner_seen (decision_of name 0 one)) || false)) (Some (decision_of name 0 one)) None
    (ap (λ b. not (b || false)) (prevails_not one.1.action))

deciding_alone : (suffixes : List SuffixRule) (request : Request) (state : State) (extension : Extension) → state.extensions ≡ extension ∷ []
    → deciding suffixes state request ≡ option_map (decision_of extension.name 0) (winner_of suffixes request extension)
deciding_alone suffixes request state extension is =
    ap (λ (extensions : List Extension). unbeaten_of (λ a b. prevails (winner_seen a) (winner_seen b)) (decisions_from suffixes request 0 extensions)) is
    ∙ only_decides extension.name (winner_of suffixes request extension)

-- ---- the verdict

outcome_with : (outcome : Outcome) (rule : Option RuleName) (request : Request) (ops : List NamedOp) → (with_ops outcome rule request ops).outcome ≡ outcome
outcome_with outcome rule request [] = refl
outcome_with outcome rule request (op ∷ ops) = refl

outcome_of : Verb → Outcome
outcome_of Allow = outcome.Allow
outcome_of AllowAllRequests = outcome.Allow
outcome_of Block = outcome.Block
outcome_of UpgradeScheme = outcome.Upgrade
outcome_of Redirect = outcome.Redirect

decided_outcome : (suffixes : List SuffixRule) (state : State) (request : Request) (decision : Decision) (verb : Verb) → (decided suffixes state request decision verb).outcome ≡ outcome_of verb
unfolding outcome_of
decided_outcome suffixes state request decision Allow = outcome_with outcome.Allow _ request (named_ops suffixes state request)
decided_outcome suffixes state request decision AllowAllRequests = outcome_with outcome.Allow _ request (named_ops suffixes state request)
decided_outcome suffixes state request decision Block = refl
decided_outcome suffixes state request decision UpgradeScheme = refl
decided_outcome suffixes state request decision Redirect = refl

blocks_alone : (verb : Verb) → outcome_of verb ≡ outcome.Block → verb ≡ Block
unfolding outcome_of
blocks_alone Allow h = cc
blocks_alone AllowAllRequests h = cc
blocks_alone Block h = refl
blocks_alone UpgradeScheme h = cc
blocks_alone Redirect h = cc

-- the scan blocks where the winner of the extension blocks
winner_blocks : (suffixes : List SuffixRule) (state : State) (request : Request) (name : List ℕ) (winner : Option (Live × Candidate))
    → (verdict_by suffixes state request (option_map (decision_of name 0) winner)).outcome ≡ outcome.Block → (one : Live × Candidate) × (winner ≡ Some one) × (one.1.action ≡ Block)
winner_blocks suffixes state request name None h =
    let none : outcome.None ≡ outcome.Block = sym (outcome_with outcome.None None request (named_ops suffixes state request)) ∙ h in cc
winner_blocks suffixes state request name (Some one) h =
    (one, refl, blocks_alone one.1.action (sym (decided_outcome suffixes state request (decision_of name 0 one) one.1.action) ∙ h))

blocks_by_winner : (suffixes : List SuffixRule) (state : State) (request : Request) (name : List ℕ) (one : Live × Candidate) → one.1.action ≡ Block
    → (verdict_by suffixes state request (Some (decision_of name 0 one))).outcome ≡ outcome.Block
unfolding outcome_of
blocks_by_winner suffixes state request name one is =
    decided_outcome suffixes state request (decision_of name 0 one) one.1.action ∙ ap outcome_of is

-- ---- the law

is_blocking : (effect : Effect) → verb_as effect ≡ Block → effect ≡ blocks
is_blocking blocks h = refl
is_blocking allows h = cc
is_blocking exempts h = cc

is_same : (effect other : Effect) → same_effect effect other ≡ true → other ≡ effect
is_same blocks blocks h = refl
is_same blocks allows h = cc
is_same blocks exempts h = cc
is_same allows blocks h = cc
is_same allows allows h = refl
is_same allows exempts h = cc
is_same exempts blocks h = cc
is_same exempts allows h = cc
is_same exempts exempts h = refl

same_itself : (effect : Effect) → same_effect effect effect ≡ true
same_itself blocks = refl
same_itself allows = refl
same_itself exempts = refl

module _ (suffixes : List SuffixRule) (request : Request) (name : List ℕ) (drafts : List Draft) where
  abbrev deciders : List (Live × Candidate)
  deciders = numbered suffixes name request 1 drafts

  -- a draft with this effect reaches the request
  does_one : (effect : Effect) (draft : Draft) → In draft drafts → reaches_as suffixes request draft ≡ true → draft.effect ≡ effect → list_any (does suffixes request effect) drafts ≡ true
  does_one effect draft i h is =
      any_in (does suffixes request effect) draft drafts i
      (and_from (same_effect effect draft.effect) (reaches_as suffixes request draft) (ap (same_effect effect) is ∙ same_itself effect) h)

  -- then no rule of less priority wins
  outdone : (effect : Effect) (one : Live × Candidate) → list_any (does suffixes request effect) drafts ≡ true → one.1.priority < priority_of effect
      → ((other : Live × Candidate) → In other deciders → goes_first other one ≡ false) → ⊥
  outdone effect one h less unbeaten =
      let r = any_out (does suffixes request effect) drafts h in
      let p = and_parts (same_effect effect r.0.effect) (reaches_as suffixes request r.0) r.2 in
      let is = is_same effect r.0.effect p.0 in
      let stronger = has_in (λ o. o.1.priority ≡ priority_of effect) deciders
      (one_decides suffixes name request (λ o. o.1.priority ≡ priority_of effect) 1 drafts r.0 r.1 p.1 (λ o of. of.priority ∙ ap priority_of is)) in
      true≢false (sym (by_priority stronger.0.1 one.1 (subst (λ (n : ℕ). one.1.priority < n) (sym stronger.2) less)) ∙ unbeaten stronger.0 stronger.1)

  -- it comes from a draft that reaches the request
  pub record HasDraft (one : Live × Candidate) : Type 0 where
    pub draft : Draft
    pub there : In draft drafts
    pub reaches : reaches_as suffixes request draft ≡ true
    pub same : IsOf draft one

  has_draft : (one : Live × Candidate) → In one deciders → HasDraft one
  has_draft one i =
      each_in HasDraft one deciders i (each_decides suffixes name request HasDraft 1 drafts (λ draft there h o of. record { draft = draft; there = there; reaches = h; same = of }))

  blocked : (one : Live × Candidate) → unbeaten_of goes_first deciders ≡ Some one → one.1.action ≡ Block
      → (list_any (does suffixes request blocks) drafts && not (list_any (does suffixes request allows) drafts) && not (list_any (does suffixes request exempts) drafts)) ≡ true
  blocked one is verb =
      let u = is_unbeaten goes_first first_is_order deciders one is in
      let d = has_draft one u.0 in
      let blocking = is_blocking d.draft.effect (sym d.same.verb ∙ verb) in
      let least : one.1.priority ≡ 1 = d.same.priority ∙ ap priority_of blocking in
      let first = does_one blocks d.draft d.there d.reaches blocking in
      let second = false_from_ne_true (list_any (does suffixes request allows) drafts) (λ h. outdone allows one h (omega arith) u.1) in
      let third = false_from_ne_true (list_any (does suffixes request exempts) drafts) (λ h. outdone exempts one h (omega arith) u.1) in
      and_from (list_any (does suffixes request blocks) drafts && not (list_any (does suffixes request allows) drafts)) (not (list_any (does suffixes request exempts) drafts))
      (and_from (list_any (does suffixes request blocks) drafts) (not (list_any (does suffixes request allows) drafts)) first (not_from_false _ second)) (not_from_false _ third)

  effect_blocks : (effect : Effect) → list_any (does suffixes request allows) drafts ≡ false → list_any (does suffixes request exempts) drafts ≡ false
      → list_any (does suffixes request effect) drafts ≡ true → verb_as effect ≡ Block
  effect_blocks blocks a e h = refl
  effect_blocks allows a e h = absurd (true≢false (sym h ∙ a))
  effect_blocks exempts a e h = absurd (true≢false (sym h ∙ e))

  draft_blocks : (one : Live × Candidate) (d : HasDraft one) → list_any (does suffixes request allows) drafts ≡ false → list_any (does suffixes request exempts) drafts ≡ false → one.1.action ≡ Block
  draft_blocks one d a e = d.same.verb ∙ effect_blocks d.draft.effect a e (does_one d.draft.effect d.draft d.there d.reaches refl)

  blocking_wins : (list_any (does suffixes request blocks) drafts && not (list_any (does suffixes request allows) drafts) && not (list_any (does suffixes request exempts) drafts)) ≡ true
      → (one : Live × Candidate) × (unbeaten_of goes_first deciders ≡ Some one) × (one.1.action ≡ Block)
  blocking_wins h =
      let p = and_parts (list_any (does suffixes request blocks) drafts && not (list_any (does suffixes request allows) drafts)) (not (list_any (does suffixes request exempts) drafts)) h in
      let q = and_parts (list_any (does suffixes request blocks) drafts) (not (list_any (does suffixes request allows) drafts)) p.0 in
      let r = any_out (does suffixes request blocks) drafts q.0 in
      let s = and_parts (same_effect blocks r.0.effect) (reaches_as suffixes request r.0) r.2 in
      let some = one_decides suffixes name request (λ o. Unit {0}) 1 drafts r.0 r.1 s.1 (λ o of. tt) in
      let one = unbeaten_there goes_first first_is_order deciders some in
      let u = is_unbeaten goes_first first_is_order deciders one.0 one.1 in
      let d = has_draft one.0 u.0 in
      (one.0, one.1, draft_blocks one.0 d (not-true (list_any (does suffixes request allows) drafts) q.1) (not-true (list_any (does suffixes request exempts) drafts) p.1))

winner_is : (suffixes : List SuffixRule) (request : Request) (name : List ℕ) (lines : List (List ℕ))
    → winner_of suffixes request (list_extension name (compiled lines)) ≡ unbeaten_of goes_first (deciders suffixes request name (drafts_in lines))
unfolding compiled
winner_is suffixes request name lines =
    ap (λ (lives : List Live). unbeaten_of goes_first (may_decide suffixes name request lives)) (lives_of name (with_ids 1 (drafts_in lines)))

decision_is : (suffixes : List SuffixRule) (request : Request) (state : State) (name : List ℕ) (lines : List (List ℕ)) → state.extensions ≡ list_extension name (compiled lines) ∷ []
    → deciding suffixes state request ≡ option_map (decision_of name 0) (unbeaten_of goes_first (deciders suffixes request name (drafts_in lines)))
decision_is suffixes request state name lines is =
    deciding_alone suffixes request state (list_extension name (compiled lines)) is ∙ ap (option_map (decision_of name 0)) (winner_is suffixes request name lines)

pub lists_block_what_they_say : ListsBlockWhatTheySay
unfolding scan
lists_block_what_they_say name lines suffixes state request views is =
    let drafts = drafts_in lines in
    let decision = decision_is suffixes request state name lines is in
    let said = says_by_rules suffixes request lines views in (
      (λ h.
          let wins = blocking_wins suffixes request name drafts (sym said ∙ h) in
          ap (λ (d : Option Decision). (verdict_by suffixes state request d).outcome) (decision ∙ ap (option_map (decision_of name 0)) wins.1) ∙ blocks_by_winner suffixes state request name wins.0 wins.2),
      (λ h.
          let one = winner_blocks suffixes state request name (unbeaten_of goes_first (deciders suffixes request name drafts))
          (ap (λ (d : Option Decision). (verdict_by suffixes state request d).outcome) (sym decision) ∙ h) in
          said ∙ blocked suffixes request name drafts one.0 one.1 one.2),
    )
