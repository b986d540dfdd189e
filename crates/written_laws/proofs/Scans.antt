-- A state decides as it does with its rules in their normal form.
use Rattle.std.proofs.Common.{◌≡◌, ℕ, ◌+◌, List, [], ◌∷◌, ◌++◌, map, filter, flat_map, Bool, true, false, cond, not, ◌&&◌, ◌||◌, Option, Some, None, refl, sym, ap, ◌∙◌}
use Rattle.std.specs.Prelude.{option_map, is_some, codes, max, if◌then◌else◌}
use Rattle.std.specs.List.{filter_map, cons_option, find, list_any}
use Rattle.std.proofs.lemmas.List.{map-append}
use Rattle.dnr_base.specs.declared.candidate.Candidate.{Candidate}
use Rattle.dnr_base.specs.declared.direction.Direction.TheVariants as direction
use Rattle.dnr_base.specs.declared.frame.Frame.{Frame}
use Rattle.dnr_base.specs.declared.rank.Rank.{Rank}
use Rattle.dnr_base.specs.declared.rank.Rank.TheVariants.{Session, Dynamic, Static}
use Rattle.dnr_base.specs.declared.request.Request.{Request}
use Rattle.dnr_base.specs.declared.verb.Verb.{Verb}
use Rattle.dnr_base.specs.declared.verb.Verb.TheVariants as verb
use Rattle.dnr_base.specs.View.{View}
use Rattle.dnr_base.specs.Request.{Part, own_part, frame_part_of}
use Rattle.dnr_spec.specs.Suffixes.{SuffixRule}
use Rattle.dnr_spec.specs.Order.{beats, prevails}
use Rattle.rule_spec.specs.declared.reach.Reach.TheVariants.{Own}
use Rattle.rule_spec.specs.declared.outcome.Outcome.TheVariants as outcome
use Rattle.rule_spec.specs.Rule.{Action, block, redirect, allow, upgrade_scheme, modify_headers, allow_all_requests, verb_of, Rule}
use Rattle.rule_spec.specs.Reaches.{holds_on_part, first_frame, by_first, through_frames, reach_of}
use Rattle.rule_spec.specs.State.{RuleSet, Extension, State, Live, with_lines, live_in_set, has_number, live_of, live_from, live_with, live_rules}
use Rattle.rule_spec.specs.Access.{has_access}
use Rattle.rule_spec.specs.Scan.{may_act, is_candidate, candidates, candidate_of, deciding_of, unbeaten_of, winner_of, Decision, decision_of, list_of, decisions_from, winner_seen, deciding, Offer, name_of, offers_in, allowed_priority, greatest_allowed, changes_headers, comes_before, into_order, in_order, changing, offers_of, offers_from, named_op, taking_effect, NamedOp, is_on, named_ops, plain_verdict, with_ops, decided_target, decided, verdict_by, scan}
use Rattle.written_laws.specs.Normal.{normal}
use Rattle.written_laws.specs.Alike.{normal_set, normal_extension, normal_state, NormalStatesDecideAlike}
use Rattle.written_laws.proofs.Alike.{normal_rules_hold_alike}

-- ---- lists of which each element is changed

map-cond : {X Y : Type 0} (f : X → Y) (b : Bool) (one other : List X) → map f (cond b one other) ≡ cond b (map f one) (map f other)
map-cond f true one other = refl
map-cond f false one other = refl

map-filter : {X Y : Type 0} (f : X → Y) (test : Y → Bool) (old : X → Bool) → ((x : X) → test (f x) ≡ old x) → (list : List X) → filter test (map f list) ≡ map f (filter old list)
map-filter f test old same [] = refl
map-filter f test old same (x ∷ list) =
    let rest = map-filter f test old same list in
    (λ i. cond (same x i) (f x ∷ rest i) (rest i)) ∙ sym (map-cond f (old x) (x ∷ filter old list) (filter old list))

cons_option-map : {X Y : Type 0} (f : X → Y) (o : Option X) (list : List X) → cons_option (option_map f o) (map f list) ≡ map f (cons_option o list)
cons_option-map f None list = refl
cons_option-map f (Some x) list = refl

map-filter_map : {X Y Z W : Type 0} (f : X → Y) (h : Y → Option Z) (old : X → Option W) (g : W → Z) → ((x : X) → h (f x) ≡ option_map g (old x)) → (list : List X)
    → filter_map h (map f list) ≡ map g (filter_map old list)
map-filter_map f h old g same [] = refl
map-filter_map f h old g same (x ∷ list) =
    let rest = map-filter_map f h old g same list in
    (λ i. cons_option (same x i) (rest i)) ∙ cons_option-map g (old x) (filter_map old list)

option_map-cond : {X Y : Type 0} (f : X → Y) (b : Bool) (one other : Option X) → option_map f (cond b one other) ≡ cond b (option_map f one) (option_map f other)
option_map-cond f true one other = refl
option_map-cond f false one other = refl

map-find : {X Y : Type 0} (f : X → Y) (test : Y → Bool) (old : X → Bool) → ((x : X) → test (f x) ≡ old x) → (list : List X) → find test (map f list) ≡ option_map f (find old list)
map-find f test old same [] = refl
map-find f test old same (x ∷ list) =
    let rest = map-find f test old same list in
    (λ i. cond (same x i) (Some (f x)) (rest i)) ∙ sym (option_map-cond f (old x) (Some x) (find old list))

map-any : {X Y : Type 0} (f : X → Y) (test : Y → Bool) (old : X → Bool) → ((x : X) → test (f x) ≡ old x) → (list : List X) → list_any test (map f list) ≡ list_any old list
map-any f test old same [] = refl
map-any f test old same (x ∷ list) = let rest = map-any f test old same list in λ i. same x i || rest i

map-flat_map : {X Y Z : Type 0} (f : X → Y) (h : Y → List Z) (old : X → List Z) → ((x : X) → h (f x) ≡ old x) → (list : List X) → flat_map h (map f list) ≡ flat_map old list
map-flat_map f h old same [] = refl
map-flat_map f h old same (x ∷ list) = let rest = map-flat_map f h old same list in λ i. same x i ++ rest i

map-unbeaten : {X Y : Type 0} (f : X → Y) (strong : Y → Y → Bool) (old : X → X → Bool) → ((a b : X) → strong (f a) (f b) ≡ old a b) → (list : List X)
    → unbeaten_of strong (map f list) ≡ option_map f (unbeaten_of old list)
map-unbeaten f strong old same list =
    map-find f (λ one. not (list_any (λ other. strong other one) (map f list))) (λ one. not (list_any (λ other. old other one) list))
    (λ one. ap not (map-any f (λ other. strong other (f one)) (λ other. old other one) (λ other. same other one) list)) list

-- ---- the rules in force

abbrev normal_live : Live → Live
normal_live live = record { rank = live.rank; set = live.set; rule = normal live.rule; lines = live.lines }

live-with : (rank : Rank) (set : List ℕ) (rules : List Rule) → live_with rank set (map normal rules) ≡ map normal_live (live_with rank set rules)
live-with rank set [] = refl
live-with rank set (rule ∷ rules) = ap (λ l. normal_live (record { rank = rank; set = set; rule = rule; lines = [] }) ∷ l) (live-with rank set rules)

abbrev normal_lined : Rule × List ℕ → Rule × List ℕ
normal_lined one = (normal one.0, one.1)

with-lines : (rules : List Rule) (origins : List (List ℕ)) → with_lines (map normal rules) origins ≡ map normal_lined (with_lines rules origins)
with-lines [] origins = refl
with-lines (rule ∷ rules) [] = ap (λ l. (normal rule, []) ∷ l) (with-lines rules [])
with-lines (rule ∷ rules) (lines ∷ origins) = ap (λ l. (normal rule, lines) ∷ l) (with-lines rules origins)

live-in-set : (place : ℕ) (set : RuleSet) (one : Rule × List ℕ) → live_in_set place (normal_set set) (normal_lined one) ≡ option_map normal_live (live_in_set place set one)
live-in-set place set one = by (has_number set.disabled one.0.id)
  where
    by : (b : Bool) → cond b None (Some (normal_live (record { rank = Static place; set = set.id; rule = one.0; lines = one.1 })))
        ≡ option_map normal_live (cond b None (Some (record { rank = Static place; set = set.id; rule = one.0; lines = one.1 })))
    by true = refl
    by false = refl

live-of : (place : ℕ) (set : RuleSet) → live_of place (normal_set set) ≡ map normal_live (live_of place set)
live-of place set =
    let lines = with-lines set.rules set.origins in
    let lives = ap (filter_map (live_in_set place (normal_set set))) lines
    ∙ map-filter_map normal_lined (live_in_set place (normal_set set)) (live_in_set place set) normal_live (live-in-set place set) (with_lines set.rules set.origins) in
    ap (λ l. if set.enabled then l else []) lives ∙ sym (map-cond normal_live set.enabled (filter_map (live_in_set place set) (with_lines set.rules set.origins)) [])

live-from : (place : ℕ) (sets : List RuleSet) → live_from place (map normal_set sets) ≡ map normal_live (live_from place sets)
live-from place [] = refl
live-from place (set ∷ sets) =
    let first = live-of place set in
    let rest = live-from (place + 1) sets in
    (λ i. first i ++ rest i) ∙ sym (map-append normal_live (live_of place set) (live_from (place + 1) sets))

live-rules : (extension : Extension) → live_rules (normal_extension extension) ≡ map normal_live (live_rules extension)
live-rules extension =
    let session = live-with Session (codes "_session") extension.session in
    let dynamic = live-with Dynamic (codes "_dynamic") extension.dynamic in
    let sets = live-from 0 extension.sets in
    let old_session = live_with Session (codes "_session") extension.session in
    let old_dynamic = live_with Dynamic (codes "_dynamic") extension.dynamic in
    let old_sets = live_from 0 extension.sets in
    (λ i. session i ++ dynamic i ++ sets i) ∙ sym (map-append normal_live (old_session ++ old_dynamic) old_sets ∙ ap (λ l. l ++ map normal_live old_sets) (map-append normal_live old_session old_dynamic))

-- ---- candidates

first-frame : (suffixes : List SuffixRule) (rule : Rule) (request : Request) (place : ℕ) (frames : List Frame) → first_frame suffixes (normal rule) request place frames ≡ first_frame suffixes rule request place frames
first-frame suffixes rule request place [] = refl
first-frame suffixes rule request place (frame ∷ frames) =
    let here = on_part (frame_part_of request place frame) in
    let rest = first-frame suffixes rule request (place + 1) frames in
    λ i. if here i then Some place else rest i
  where
    on_part : (o : Option Part) → holds_on_part suffixes (normal rule) o ≡ holds_on_part suffixes rule o
    on_part None = refl
    on_part (Some part) = normal_rules_hold_alike suffixes rule part

frames-reached : (suffixes : List SuffixRule) (rule : Rule) (request : Request) (action : Action) → through_frames suffixes (normal rule) request action ≡ through_frames suffixes rule request action
frames-reached suffixes rule request block = refl
frames-reached suffixes rule request (redirect target) = refl
frames-reached suffixes rule request allow = refl
frames-reached suffixes rule request upgrade_scheme = refl
frames-reached suffixes rule request (modify_headers first second) = refl
frames-reached suffixes rule request allow_all_requests = ap by_first (first-frame suffixes rule request 0 request.frames)

reached : (suffixes : List SuffixRule) (rule : Rule) (request : Request) → reach_of suffixes (normal rule) request ≡ reach_of suffixes rule request
reached suffixes rule request =
    let own = normal_rules_hold_alike suffixes rule (own_part request) in
    let frames = frames-reached suffixes rule request rule.action in
    λ i. if own i then Some Own else frames i

acts : (extension : List ℕ) (access : Bool) (rule : Rule) (action : Action) (view : View)
    → may_act extension access (normal rule) action view ≡ may_act extension access rule action view
acts extension access rule block view = refl
acts extension access rule (redirect target) view = refl
acts extension access rule allow view = refl
acts extension access rule upgrade_scheme view = refl
acts extension access rule (modify_headers request response) view = refl
acts extension access rule allow_all_requests view = refl

is-candidate : (suffixes : List SuffixRule) (extension : List ℕ) (access : Bool) (request : Request) (rule : Rule)
    → is_candidate suffixes extension access request (normal rule) ≡ is_candidate suffixes extension access request rule
is-candidate suffixes extension access request rule =
    let reach = reached suffixes rule request in
    let act = acts extension access rule rule.action request.view in
    λ i. is_some (reach i) && act i

candidates-alike : (suffixes : List SuffixRule) (extension : Extension) (request : Request) → candidates suffixes (normal_extension extension) request ≡ map normal_live (candidates suffixes extension request)
candidates-alike suffixes extension request =
    let access = has_access extension.access request in
    ap (filter (λ live. is_candidate suffixes extension.name access request live.rule)) (live-rules extension)
    ∙ map-filter normal_live (λ live. is_candidate suffixes extension.name access request live.rule) (λ live. is_candidate suffixes extension.name access request live.rule)
    (λ live. is-candidate suffixes extension.name access request live.rule) (live_rules extension)

-- ---- which rule decides

abbrev normal_pair : Live × Candidate → Live × Candidate
normal_pair one = (normal_live one.0, one.1)

deciding-alike : (live : Live) → deciding_of (normal_live live) ≡ option_map normal_pair (deciding_of live)
deciding-alike live = by (verb_of live.rule.action)
  where
    by : (o : Option Verb) → option_map (λ verb. (normal_live live, candidate_of (normal_live live) verb)) o ≡ option_map normal_pair (option_map (λ verb. (live, candidate_of live verb)) o)
    by None = refl
    by (Some verb) = refl

winner-alike : (suffixes : List SuffixRule) (request : Request) (extension : Extension) → winner_of suffixes request (normal_extension extension) ≡ option_map normal_pair (winner_of suffixes request extension)
winner-alike suffixes request extension =
    ap (λ l. unbeaten_of (λ a b. beats a.1 b.1) (filter_map deciding_of l)) (candidates-alike suffixes extension request)
    ∙ ap (unbeaten_of (λ a b. beats a.1 b.1)) (map-filter_map normal_live deciding_of deciding_of normal_pair deciding-alike (candidates suffixes extension request))
    ∙ map-unbeaten normal_pair (λ a b. beats a.1 b.1) (λ a b. beats a.1 b.1) (λ a b. refl) (filter_map deciding_of (candidates suffixes extension request))

abbrev normal_decision : Decision → Decision
normal_decision decision = record { extension = decision.extension; age = decision.age; live = normal_live decision.live; verb = decision.verb }

decisions-alike : (suffixes : List SuffixRule) (request : Request) (age : ℕ) (extensions : List Extension)
    → decisions_from suffixes request age (map normal_extension extensions) ≡ map normal_decision (decisions_from suffixes request age extensions)
decisions-alike suffixes request age [] = refl
decisions-alike suffixes request age (extension ∷ extensions) =
    let first = ap (λ o. list_of (option_map (decision_of extension.name age) o)) (winner-alike suffixes request extension) ∙ one (winner_of suffixes request extension) in
    let rest = decisions-alike suffixes request (age + 1) extensions in
    (λ i. first i ++ rest i)
    ∙ sym (map-append normal_decision (list_of (option_map (decision_of extension.name age) (winner_of suffixes request extension))) (decisions_from suffixes request (age + 1) extensions))
  where
    one : (o : Option (Live × Candidate)) → list_of (option_map (decision_of extension.name age) (option_map normal_pair o)) ≡ map normal_decision (list_of (option_map (decision_of extension.name age) o))
    one None = refl
    one (Some p) = refl

decides-alike : (suffixes : List SuffixRule) (state : State) (request : Request) → deciding suffixes (normal_state state) request ≡ option_map normal_decision (deciding suffixes state request)
decides-alike suffixes state request =
    ap (unbeaten_of (λ a b. prevails (winner_seen a) (winner_seen b))) (decisions-alike suffixes request 0 state.extensions)
    ∙ map-unbeaten normal_decision (λ a b. prevails (winner_seen a) (winner_seen b)) (λ a b. prevails (winner_seen a) (winner_seen b)) (λ a b. refl) (decisions_from suffixes request 0 state.extensions)

-- ---- header operations

greatest-alike : (lives : List Live) → greatest_allowed (map normal_live lives) ≡ greatest_allowed lives
greatest-alike [] = refl
greatest-alike (live ∷ lives) = ap (max (allowed_priority live.rule.action live.rule.priority)) (greatest-alike lives)

into-order : (live : Live) (lives : List Live) → into_order (normal_live live) (map normal_live lives) ≡ map normal_live (into_order live lives)
into-order live [] = refl
into-order live (first ∷ rest) =
    ap (λ l. if comes_before live first then normal_live live ∷ normal_live first ∷ map normal_live rest else normal_live first ∷ l) (into-order live rest)
    ∙ sym (map-cond normal_live (comes_before live first) (live ∷ first ∷ rest) (first ∷ into_order live rest))

in-order : (lives : List Live) → in_order (map normal_live lives) ≡ map normal_live (in_order lives)
in-order [] = refl
in-order (live ∷ lives) = ap (into_order (normal_live live)) (in-order lives) ∙ into-order live (in_order lives)

changing-alike : (lives : List Live) → changing (map normal_live lives) ≡ map normal_live (changing lives)
changing-alike lives =
    ap (λ n. in_order (filter (changes_headers n) (map normal_live lives))) (greatest-alike lives)
    ∙ ap in_order (map-filter normal_live (changes_headers (greatest_allowed lives)) (changes_headers (greatest_allowed lives)) (λ live. refl) lives)
    ∙ in-order (filter (changes_headers (greatest_allowed lives)) lives)

abbrev offers_by_live : ℕ → List ℕ → Live → List Offer
offers_by_live age extension live = offers_in age (name_of extension live) live.rule.action

offers-alike : (suffixes : List SuffixRule) (request : Request) (age : ℕ) (extension : Extension) → offers_of suffixes request age (normal_extension extension) ≡ offers_of suffixes request age extension
offers-alike suffixes request age extension =
    ap (λ l. flat_map (offers_by_live age extension.name) (changing l)) (candidates-alike suffixes extension request)
    ∙ ap (flat_map (offers_by_live age extension.name)) (changing-alike (candidates suffixes extension request))
    ∙ map-flat_map normal_live (offers_by_live age extension.name) (offers_by_live age extension.name) (λ live. refl) (changing (candidates suffixes extension request))

all-offers-alike : (suffixes : List SuffixRule) (request : Request) (age : ℕ) (extensions : List Extension) → offers_from suffixes request age (map normal_extension extensions) ≡ offers_from suffixes request age extensions
all-offers-alike suffixes request age [] = refl
all-offers-alike suffixes request age (extension ∷ extensions) =
    let first = offers-alike suffixes request age extension in
    let rest = all-offers-alike suffixes request (age + 1) extensions in
    λ i. rest i ++ first i

abbrev ops_in_effect : List Offer → List NamedOp
ops_in_effect offers =
    let ops = map named_op (taking_effect offers) in
    filter (is_on direction.Request) ops ++ filter (is_on direction.Response) ops

ops-alike : (suffixes : List SuffixRule) (state : State) (request : Request) → named_ops suffixes (normal_state state) request ≡ named_ops suffixes state request
ops-alike suffixes state request = ap ops_in_effect (all-offers-alike suffixes request 0 state.extensions)

-- ---- the verdict

target-alike : (decision : Decision) (action : Action) (request : Request) → decided_target (normal_decision decision) action request ≡ decided_target decision action request
target-alike decision block request = refl
target-alike decision (redirect target) request = refl
target-alike decision allow request = refl
target-alike decision upgrade_scheme request = refl
target-alike decision (modify_headers asked answered) request = refl
target-alike decision allow_all_requests request = refl

decided-alike : (suffixes : List SuffixRule) (state : State) (request : Request) (decision : Decision) (verb : Verb)
    → decided suffixes (normal_state state) request (normal_decision decision) verb ≡ decided suffixes state request decision verb
decided-alike suffixes state request decision verb.Block = refl
decided-alike suffixes state request decision verb.Redirect =
    ap (plain_verdict outcome.Redirect (Some (name_of decision.extension decision.live))) (target-alike decision decision.live.rule.action request)
decided-alike suffixes state request decision verb.UpgradeScheme =
    ap (plain_verdict outcome.Upgrade (Some (name_of decision.extension decision.live))) (target-alike decision decision.live.rule.action request)
decided-alike suffixes state request decision verb.Allow =
    ap (with_ops outcome.Allow (Some (name_of decision.extension decision.live)) request) (ops-alike suffixes state request)
decided-alike suffixes state request decision verb.AllowAllRequests =
    ap (with_ops outcome.Allow (Some (name_of decision.extension decision.live)) request) (ops-alike suffixes state request)

verdict-alike : (suffixes : List SuffixRule) (state : State) (request : Request) (o : Option Decision) → verdict_by suffixes (normal_state state) request (option_map normal_decision o) ≡ verdict_by suffixes state request o
verdict-alike suffixes state request None = ap (with_ops outcome.None None request) (ops-alike suffixes state request)
verdict-alike suffixes state request (Some decision) = decided-alike suffixes state request decision decision.verb

pub normal_states_decide_alike : NormalStatesDecideAlike
unfolding scan
normal_states_decide_alike suffixes state request =
    ap (verdict_by suffixes (normal_state state) request) (decides-alike suffixes state request) ∙ verdict-alike suffixes state request (deciding suffixes state request)
