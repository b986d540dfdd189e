-- One rule less in an extension: it says and offers the same, where another rule outdoes that one.
use Rattle.std.proofs.Common.{◌≡◌, ℕ, ◌≤◌, List, [], ◌∷◌, ◌++◌, filter, flat_map, Bool, true, false, cond, not, ◌&&◌, ◌==◌, Option, Some, None, ◌⊎◌, inl, inr, refl, sym, ap, ◌∙◌, subst, ⊎_elim, arith}
use Rattle.std.specs.Prelude.{option_map, is_some, max, nat_lt, nat_le, if◌then◌else◌}
use Rattle.std.specs.List.{filter_map, cons_option}
use Rattle.std.proofs.lemmas.Bool.{cases_Bool, cond-true, cond-false, eq-eqb, eqb-true, ltb-false}
use Rattle.dnr_base.specs.declared.candidate.Candidate.{Candidate}
use Rattle.dnr_base.specs.declared.request.Request.{Request}
use Rattle.dnr_base.specs.declared.verb.Verb.{Verb}
use Rattle.dnr_base.specs.declared.verb.Verb.TheVariants as verb
use Rattle.dnr_spec.specs.Suffixes.{SuffixRule}
use Rattle.dnr_spec.specs.Order.{is_before, place_of, rank_of, beats}
use Rattle.rule_spec.specs.Rule.{Action, block, redirect, allow, upgrade_scheme, modify_headers, allow_all_requests, verb_of, is_unsafe, Rule}
use Rattle.rule_spec.specs.State.{Live}
use Rattle.rule_spec.specs.Scan.{is_candidate, candidate_of, deciding_of, unbeaten_of, allowed_priority, greatest_allowed, changes_headers, in_order, changing}
use Rattle.precedence.specs.Laws.{IsOrder}
use Rattle.precedence.proofs.Orders.{beats_is_order}
use Rattle.compile_laws.proofs.Lists.{In, in_filtered, none_in}
use Rattle.prune_laws.proofs.Maps.{filter_apart, filter_map_apart, filter_past, filter_keeps}
use Rattle.prune_laws.proofs.Removal.{found_in, without}
use Rattle.prune_laws.proofs.Bare.{led_to, said_by, is_one, winner_in, offers_by_live, offers_of_lives}

-- ---- actions

abbrev is_unsafe_verb : Option Verb → Bool
is_unsafe_verb None = true
is_unsafe_verb (Some verb.Block) = false
is_unsafe_verb (Some verb.Redirect) = true
is_unsafe_verb (Some verb.UpgradeScheme) = false
is_unsafe_verb (Some verb.Allow) = false
is_unsafe_verb (Some verb.AllowAllRequests) = false

unsafe_by_verb : (action : Action) → is_unsafe action ≡ is_unsafe_verb (verb_of action)
unsafe_by_verb block = refl
unsafe_by_verb (redirect target) = refl
unsafe_by_verb allow = refl
unsafe_by_verb upgrade_scheme = refl
unsafe_by_verb (modify_headers request response) = refl
unsafe_by_verb allow_all_requests = refl

abbrev action_by : Option Verb → Action
action_by None = block
action_by (Some verb.Block) = block
action_by (Some verb.Redirect) = block
action_by (Some verb.UpgradeScheme) = upgrade_scheme
action_by (Some verb.Allow) = allow
action_by (Some verb.AllowAllRequests) = allow_all_requests

safe_by_verb : (action : Action) → is_unsafe action ≡ false → action_by (verb_of action) ≡ action
safe_by_verb block h = refl
safe_by_verb (redirect target) h = cc
safe_by_verb allow h = refl
safe_by_verb upgrade_scheme h = refl
safe_by_verb (modify_headers request response) h = cc
safe_by_verb allow_all_requests h = refl

-- a safe action is told by its verb
pub same_action : (one other : Action) → is_unsafe other ≡ false → verb_of one ≡ verb_of other → one ≡ other
same_action one other safe same =
    let also : is_unsafe one ≡ false = unsafe_by_verb one ∙ ap is_unsafe_verb same ∙ sym (unsafe_by_verb other) ∙ safe in
    sym (safe_by_verb one also) ∙ ap action_by same ∙ safe_by_verb other safe

safe_verb : (action : Action) → is_unsafe action ≡ false → (v : Verb) × (verb_of action ≡ Some v)
safe_verb block h = (verb.Block, refl)
safe_verb (redirect target) h = cc
safe_verb allow h = (verb.Allow, refl)
safe_verb upgrade_scheme h = (verb.UpgradeScheme, refl)
safe_verb (modify_headers request response) h = cc
safe_verb allow_all_requests h = (verb.AllowAllRequests, refl)

abbrev verb_at : ℕ → Verb
verb_at n = if n == 0 then verb.Allow else (if n == 1 then verb.AllowAllRequests else (if n == 2 then verb.Block else (if n == 3 then verb.UpgradeScheme else verb.Redirect)))

verb_of_place : (v : Verb) → verb_at (place_of v) ≡ v
verb_of_place verb.Block = refl
verb_of_place verb.Redirect = refl
verb_of_place verb.UpgradeScheme = refl
verb_of_place verb.Allow = refl
verb_of_place verb.AllowAllRequests = refl

pub same_verb_is : (one other : Verb) → place_of one ≡ place_of other → one ≡ other
same_verb_is one other same = sym (verb_of_place one) ∙ ap verb_at same ∙ verb_of_place other

led_alike : (name : List ℕ) (request : Request) (one other : Rule) (action : Action) → is_unsafe action ≡ false → led_to name request one action ≡ led_to name request other action
led_alike name request one other block h = refl
led_alike name request one other (redirect target) h = cc
led_alike name request one other allow h = refl
led_alike name request one other upgrade_scheme h = refl
led_alike name request one other (modify_headers asked answered) h = cc
led_alike name request one other allow_all_requests h = refl

-- ---- numbers

no_less : (x y : ℕ) (rest : Bool) → cond (x == y) rest (nat_lt x y) ≡ false → y ≤ x
no_less x y rest h =
    ⊎_elim (λ same. let e = eqb-true x y same in omega arith) (λ apart. ltb-false x y (sym (cond-false (x == y) rest (nat_lt x y) apart) ∙ h)) (cases_Bool (x == y))

not_ahead : (m n x y : ℕ) (pairs : List (ℕ × ℕ)) → is_before ((m, n) ∷ (x, y) ∷ pairs) ≡ false → (n ≤ m) × (m ≡ n → y ≤ x)
not_ahead m n x y pairs h = (
  no_less m n (cond (x == y) (is_before pairs) (nat_lt x y)) h,
  λ same. no_less x y (is_before pairs) (sym (cond-true (m == n) (cond (x == y) (is_before pairs) (nat_lt x y)) (nat_lt m n) (eq-eqb m n same)) ∙ h),
)

-- neither is k ahead of w nor w ahead of s, though k is no weaker than s: so w has the action of s
tied : (k s w : Candidate) → beats k w ≡ false → beats w s ≡ false → s.priority ≤ k.priority → k.action ≡ s.action → w.action ≡ s.action
tied k s w kw ws more same =
    let a = not_ahead w.priority k.priority (place_of k.action) (place_of w.action) ((rank_of k.rank, rank_of w.rank) ∷ (k.id, w.id) ∷ []) kw in
    let b = not_ahead s.priority w.priority (place_of w.action) (place_of s.action) ((rank_of w.rank, rank_of s.rank) ∷ (w.id, s.id) ∷ []) ws in
    let low = a.0 in
    let high = b.0 in
    let one : w.priority ≡ k.priority = omega (arith, low, high, more) in
    let two : s.priority ≡ w.priority = omega (arith, low, high, more) in
    let down = a.1 one in
    let up = b.1 two in
    let place = ap place_of same in
    same_verb_is w.action s.action (omega (arith, down, up, place))

max_turned : (a b c : ℕ) → max a (max b c) ≡ max b (max a c)
max_turned a b c = omega arith

max_under : (a b : ℕ) → a ≤ b → max a b ≡ b
max_under a b h = omega arith

max_left : (a b c : ℕ) → c ≤ b → c ≤ max a b
max_left a b c h = omega arith

max_right : (a b : ℕ) → a ≤ max a b
max_right a b = omega arith

allowed_more : (action : Action) (m n : ℕ) → m ≤ n → allowed_priority action m ≤ allowed_priority action n
allowed_more block m n h = omega arith
allowed_more (redirect target) m n h = omega arith
allowed_more allow m n h = h
allowed_more upgrade_scheme m n h = omega arith
allowed_more (modify_headers asked answered) m n h = omega arith
allowed_more allow_all_requests m n h = h

abbrev allowed_by : Live → ℕ
allowed_by live = allowed_priority live.rule.action live.rule.priority

greatest_with : (front : List Live) (s : Live) (back : List Live) → greatest_allowed (front ++ s ∷ back) ≡ max (allowed_by s) (greatest_allowed (front ++ back))
greatest_with [] s back = refl
greatest_with (x ∷ front) s back = ap (max (allowed_by x)) (greatest_with front s back) ∙ max_turned (allowed_by x) (allowed_by s) (greatest_allowed (front ++ back))

allowed_below : (k : Live) (lives : List Live) → In k lives → allowed_by k ≤ greatest_allowed lives
allowed_below k [] i = absurd i
allowed_below k (x ∷ lives) (inl e) = subst (λ (n : ℕ). n ≤ max (allowed_by x) (greatest_allowed lives)) (ap allowed_by e) (max_right (allowed_by x) (greatest_allowed lives))
allowed_below k (x ∷ lives) (inr i) = max_left (allowed_by x) (greatest_allowed lives) (allowed_by k) (allowed_below k lives i)

-- ---- the rules that decide

first_in : {Y : Type 0} (o : Option Y) (y : Y) (ys : List Y) → o ≡ Some y → In y (cons_option o ys)
first_in None y ys h = cc
first_in (Some x) y ys h = let same : x ≡ y = cc in inl same

later_in : {Y : Type 0} (o : Option Y) (y : Y) (ys : List Y) → In y ys → In y (cons_option o ys)
later_in None y ys i = i
later_in (Some x) y ys i = inr i

in_mapped : {X Y : Type 0} (f : X → Option Y) (x : X) (y : Y) (xs : List X) → In x xs → f x ≡ Some y → In y (filter_map f xs)
in_mapped f x y [] i h = absurd i
in_mapped f x y (z ∷ xs) (inl e) h = first_in (f z) y (filter_map f xs) (ap f e ∙ h)
in_mapped f x y (z ∷ xs) (inr i) h = later_in (f z) y (filter_map f xs) (in_mapped f x y xs i h)

out_of_first : {Y : Type 0} (o : Option Y) (y : Y) (ys : List Y) → In y (cons_option o ys) → (o ≡ Some y) ⊎ In y ys
out_of_first None y ys i = inr i
out_of_first (Some x) y ys (inl e) = inl (ap Some e)
out_of_first (Some x) y ys (inr i) = inr i

decides_as : (live : Live) (o : Option Verb) (y : Live × Candidate) → verb_of live.rule.action ≡ o → option_map (λ v. (live, candidate_of live v)) o ≡ Some y → verb_of y.0.rule.action ≡ Some y.1.action
decides_as live None y e h = cc
decides_as live (Some v) y e h =
    let same : (live, candidate_of live v) ≡ y = cc in
    sym (ap (λ (p : Live × Candidate). verb_of p.0.rule.action) same) ∙ e ∙ ap (λ (p : Live × Candidate). Some p.1.action) same

decided_in : (lives : List Live) (y : Live × Candidate) → In y (filter_map deciding_of lives) → verb_of y.0.rule.action ≡ Some y.1.action
decided_in [] y i = absurd i
decided_in (live ∷ lives) y i =
    ⊎_elim (λ here. decides_as live (verb_of live.rule.action) y refl here) (λ later. decided_in lives y later)
    (out_of_first (deciding_of live) y (filter_map deciding_of lives) i)

-- ---- the whole

-- k does the same as s, is no weaker, and is a candidate where s is one
pub record Outdoes (suffixes : List SuffixRule) (name : List ℕ) (access : Bool) (request : Request) (k s : Rule) : Type 0 where
  pub action : k.action ≡ s.action
  pub safe : is_unsafe s.action ≡ false
  pub priority : s.priority ≤ k.priority
  pub reaches : is_candidate suffixes name access request s ≡ true → is_candidate suffixes name access request k ≡ true

abbrev ahead : Live × Candidate → Live × Candidate → Bool
ahead a b = beats a.1 b.1

module _ (suffixes : List SuffixRule) (name : List ℕ) (access : Bool) (request : Request) (front : List Live) (s : Live) (back : List Live) (k : Live) where
  abbrev test : Live → Bool
  test = is_one suffixes name access request

  abbrev said : Live × Candidate → Verb × Option (List ℕ)
  said = said_by name request

  -- s is no candidate
  said_past : test s ≡ false → option_map said (winner_in suffixes name access request (front ++ s ∷ back)) ≡ option_map said (winner_in suffixes name access request (front ++ back))
  said_past h = ap (λ l. option_map said (unbeaten_of ahead (filter_map deciding_of l))) (filter_past test front s back h)

  offers_past : (age : ℕ) → test s ≡ false → offers_of_lives suffixes name access request age (front ++ s ∷ back) ≡ offers_of_lives suffixes name access request age (front ++ back)
  offers_past age h = ap (λ l. flat_map (offers_by_live suffixes name access request age) (changing l)) (filter_past test front s back h)

  module _ (there : In k (front ++ back)) (o : Outdoes suffixes name access request k.rule s.rule) (is : test s ≡ true) where
    k_is_one : In k (filter test front ++ filter test back)
    k_is_one = subst (λ (l : List Live). In k l) (filter_apart test front back) (in_filtered test k (front ++ back) there (o.reaches is))

    -- both lists that decide
    abbrev fore : List (Live × Candidate)
    fore = filter_map deciding_of (filter test front)

    abbrev aft : List (Live × Candidate)
    aft = filter_map deciding_of (filter test back)

    module _ (v : Verb) (gives : verb_of s.rule.action ≡ Some v) where
      abbrev own : Live × Candidate
      own = (s, candidate_of s v)

      abbrev other : Live × Candidate
      other = (k, candidate_of k v)

      with_own : filter_map deciding_of (filter test (front ++ s ∷ back)) ≡ fore ++ own ∷ aft
      with_own =
          ap (filter_map deciding_of) (filter_keeps test front s back is)
          ∙ filter_map_apart deciding_of (filter test front) (s ∷ filter test back)
          ∙ ap (λ d. fore ++ cons_option (option_map (λ w. (s, candidate_of s w)) d) aft) gives

      without_own : filter_map deciding_of (filter test (front ++ back)) ≡ fore ++ aft
      without_own = ap (filter_map deciding_of) (filter_apart test front back) ∙ filter_map_apart deciding_of (filter test front) (filter test back)

      other_in : In other (fore ++ aft)
      other_in =
          subst (λ (l : List (Live × Candidate)). In other l) (filter_map_apart deciding_of (filter test front) (filter test back))
          (in_mapped deciding_of k other (filter test front ++ filter test back) k_is_one
          (ap (λ a. option_map (λ w. (k, candidate_of k w)) (verb_of a)) o.action ∙ ap (option_map (λ w. (k, candidate_of k w))) gives))

      -- the one that is found in its place says the same
      says_so : (w : Live × Candidate) → In w (fore ++ aft) → ahead w own ≡ false → ahead other w ≡ false → said own ≡ said w
      says_so w i no_more no_less =
          let decides : verb_of w.0.rule.action ≡ Some w.1.action =
          decided_in (filter test front ++ filter test back) w (subst (λ (l : List (Live × Candidate)). In w l) (sym (filter_map_apart deciding_of (filter test front) (filter test back))) i) in
          let same : w.1.action ≡ v = tied (candidate_of k v) (candidate_of s v) w.1 no_less no_more o.priority refl in
          let action : w.0.rule.action ≡ s.rule.action = same_action w.0.rule.action s.rule.action o.safe (decides ∙ ap Some same ∙ sym gives) in
          let led : led_to name request s.rule s.rule.action ≡ led_to name request w.0.rule w.0.rule.action =
          led_alike name request s.rule w.0.rule s.rule.action o.safe ∙ ap (led_to name request w.0.rule) (sym action) in
          λ i. (sym same i, led i)

      said_alike : option_map said (unbeaten_of ahead (fore ++ own ∷ aft)) ≡ option_map said (unbeaten_of ahead (fore ++ aft))
      said_alike =
          ⊎_elim
          (λ same. ap (option_map said) same)
          (λ lone.
          let r = found_in ahead order (fore ++ aft) other other_in in
          ap (option_map said) lone.0
          ∙ ap Some (says_so r.0 r.2 (none_in (λ one. ahead one own) r.0 (fore ++ aft) lone.1 r.2) (none_in (λ one. ahead one r.0) other (fore ++ aft) r.3 other_in))
          ∙ sym (ap (option_map said) r.1))
          (without ahead order fore own aft)
        where
          order : IsOrder ahead
          order = record { one_way = λ a b h. beats_is_order.one_way a.1 b.1 h; between = λ a b c h g. beats_is_order.between a.1 b.1 c.1 h g }

      said_kept : option_map said (winner_in suffixes name access request (front ++ s ∷ back)) ≡ option_map said (winner_in suffixes name access request (front ++ back))
      said_kept = ap (λ l. option_map said (unbeaten_of ahead l)) with_own ∙ said_alike ∙ sym (ap (λ l. option_map said (unbeaten_of ahead l)) without_own)

      -- s changes no headers, and k allows as much
      changes_none : (least : ℕ) → changes_headers least s ≡ false
      changes_none least = ap (λ d. not (is_some d) && nat_le least s.rule.priority) gives

      greatest_kept : greatest_allowed (filter test front ++ s ∷ filter test back) ≡ greatest_allowed (filter test front ++ filter test back)
      greatest_kept =
          let less : allowed_by s ≤ allowed_by k = subst (λ (a : Action). allowed_by s ≤ allowed_priority a k.rule.priority) (sym o.action) (allowed_more s.rule.action s.rule.priority k.rule.priority o.priority) in
          let most = allowed_below k (filter test front ++ filter test back) k_is_one in
          greatest_with (filter test front) s (filter test back) ∙ max_under (allowed_by s) (greatest_allowed (filter test front ++ filter test back)) (omega (arith, less, most))

      offers_kept : (age : ℕ) → offers_of_lives suffixes name access request age (front ++ s ∷ back) ≡ offers_of_lives suffixes name access request age (front ++ back)
      offers_kept age =
          let cut = filter_apart test front back in
          let most = greatest_allowed (filter test front ++ filter test back) in
          ap (λ l. flat_map (offers_by_live suffixes name access request age) (changing l)) (filter_keeps test front s back is)
          ∙ ap (λ n. flat_map (offers_by_live suffixes name access request age) (in_order (filter (changes_headers n) (filter test front ++ s ∷ filter test back)))) greatest_kept
          ∙ ap (λ l. flat_map (offers_by_live suffixes name access request age) (in_order l)) (filter_past (changes_headers most) (filter test front) s (filter test back) (changes_none most))
          ∙ sym (ap (λ l. flat_map (offers_by_live suffixes name access request age) (changing l)) cut)

  pub says_the_same : In k (front ++ back) → Outdoes suffixes name access request k.rule s.rule
      → option_map said (winner_in suffixes name access request (front ++ s ∷ back)) ≡ option_map said (winner_in suffixes name access request (front ++ back))
  says_the_same there o =
      let v = safe_verb s.rule.action o.safe in
      ⊎_elim (λ is. said_kept there o is v.0 v.1) (λ no. said_past no) (cases_Bool (test s))

  pub offers_the_same : (age : ℕ) → In k (front ++ back) → Outdoes suffixes name access request k.rule s.rule
      → offers_of_lives suffixes name access request age (front ++ s ∷ back) ≡ offers_of_lives suffixes name access request age (front ++ back)
  offers_the_same age there o =
      let v = safe_verb s.rule.action o.safe in
      ⊎_elim (λ is. offers_kept there o is v.0 v.1 age) (λ no. offers_past age no) (cases_Bool (test s))
