-- The removals that are found are a proof, and leave the rules that are kept.
use Rattle.std.proofs.Common.{◌≡◌, ℕ, ◌+◌, List, [], ◌∷◌, ◌++◌, filter, Bool, true, false, cond, not, ◌&&◌, ◌||◌, ◌==◌, Some, None, inl, inr, refl, sym, ap, ◌∙◌, subst, ⊎_elim, Ok, append-nil}
use Rattle.std.specs.Prelude.{is_some}
use Rattle.std.specs.List.{find, AllByRecursion}
use Rattle.std.proofs.lemmas.Bool.{and_parts, and_from, or_cases, or_left, or_right, or_from, eqb-true, eq-eqb, true≢false, not-true, not_from_false, false_from_ne_true, cases_Bool}
use Rattle.rule_spec.specs.Rule.{Rule}
use Rattle.rule_spec.specs.IsRule.{IsRule}
use Rattle.prune_spec.specs.declared.shadow.Shadow.{Shadow}
use Rattle.prune_spec.specs.declared.check_refusal.CheckRefusal.TheVariants.{UnknownId, RemovedTwice, KeeperRemoved, NotShadowed}
use Rattle.prune_spec.specs.Shadows.{shadows}
use Rattle.prune_spec.specs.Pruned.{is_removed, rest_of, rule_of, is_known, is_shadowed, holds_true, fault_of, or_later, first_fault, unless_at_fault, checked, has_id, stands_earlier, outdoes, is_needless, kept, named_by, removals_from, removals}
use Rattle.prune_spec.specs.Pruned.{IdsDiffer}
use Rattle.prune_laws.specs.Laws.{FoundIsAccepted}
use Rattle.compile_laws.proofs.Lists.{In, in_filtered, in_unfiltered, any_out, none_in, none_out, each_in, each_of_all}
use Rattle.prune_laws.proofs.Removal.{find_there, find_some, any_with}
use Rattle.prune_laws.proofs.Rest.{same_rule}
use Rattle.prune_laws.proofs.Through.{shadows_through}

-- ---- places

apart_back : (m n : ℕ) → (m == n) ≡ false → (n == m) ≡ false
apart_back m n h = false_from_ne_true (n == m) (λ same. true≢false (sym (eq-eqb m n (sym (eqb-true n m same))) ∙ h))

one_earlier : (rules : List Rule) (k s : Rule) → stands_earlier rules k s ≡ true → stands_earlier rules s k ≡ true → ⊥
one_earlier [] k s h g = true≢false (sym h)
one_earlier (rule ∷ rules) k s h g =
    let a = and_parts (not (rule.id == s.id)) (rule.id == k.id || stands_earlier rules k s) h in
    let b = and_parts (not (rule.id == k.id)) (rule.id == s.id || stands_earlier rules s k) g in
    let not_s = not-true (rule.id == s.id) a.0 in
    let not_k = not-true (rule.id == k.id) b.0 in
    ⊎_elim (λ e. true≢false (sym e ∙ not_k))
    (λ x. ⊎_elim (λ e. true≢false (sym e ∙ not_s)) (λ y. one_earlier rules k s x y) (or_cases (rule.id == s.id) (stands_earlier rules s k) b.1))
    (or_cases (rule.id == k.id) (stands_earlier rules k s) a.1)

earlier_through : (rules : List Rule) (k m s : Rule) → stands_earlier rules k m ≡ true → stands_earlier rules m s ≡ true → stands_earlier rules k s ≡ true
earlier_through [] k m s h g = h
earlier_through (rule ∷ rules) k m s h g =
    let a = and_parts (not (rule.id == m.id)) (rule.id == k.id || stands_earlier rules k m) h in
    let b = and_parts (not (rule.id == s.id)) (rule.id == m.id || stands_earlier rules m s) g in
    and_from (not (rule.id == s.id)) _ b.0
    (⊎_elim (λ here. or_left (rule.id == k.id) _ here)
    (λ x. ⊎_elim (λ e. absurd (true≢false (sym e ∙ not-true (rule.id == m.id) a.0))) (λ y. or_right (rule.id == k.id) _ (earlier_through rules k m s x y)) (or_cases (rule.id == m.id) (stands_earlier rules m s) b.1))
    (or_cases (rule.id == k.id) (stands_earlier rules k m) a.1))

-- what shadows another has another id
other_id : (k s : Rule) → shadows k s ≡ true → (k.id == s.id) ≡ false
other_id k s h =
    let a = and_parts _ _ h in
    let b = and_parts _ _ a.0 in
    let c = and_parts (not (k.id == s.id)) _ b.0 in
    not-true (k.id == s.id) c.0

module _ (rules : List Rule) (are : AllByRecursion IsRule rules) (differ : IdsDiffer rules) where
  is_rule : (r : Rule) → In r rules → IsRule r
  is_rule r i = each_in IsRule r rules i are

  -- k and s differ where k outdoes a rule that outdoes s
  apart_through : (k m s : Rule) → In k rules → In s rules → outdoes rules k m ≡ true → outdoes rules m s ≡ true → (k.id == s.id) ≡ false
  apart_through k m s i j h g =
      false_from_ne_true (k.id == s.id) (λ same.
      let e : k ≡ s = same_rule rules differ k s i j (eqb-true k.id s.id same) in
      let back : outdoes rules m k ≡ true = subst (λ (x : Rule). outdoes rules m x ≡ true) (sym e) g in
      let a = and_parts (shadows k m) (not (shadows m k) || stands_earlier rules k m) h in
      let b = and_parts (shadows m k) (not (shadows k m) || stands_earlier rules m k) back in
      ⊎_elim (λ no. true≢false (sym b.0 ∙ not-true (shadows m k) no))
      (λ x. ⊎_elim (λ no. true≢false (sym a.0 ∙ not-true (shadows k m) no)) (λ y. one_earlier rules k m x y) (or_cases (not (shadows k m)) (stands_earlier rules m k) b.1))
      (or_cases (not (shadows m k)) (stands_earlier rules k m) a.1))

  outdoes_through : (k m s : Rule) → In k rules → In m rules → In s rules → outdoes rules k m ≡ true → outdoes rules m s ≡ true → outdoes rules k s ≡ true
  outdoes_through k m s i l j h g =
      let apart = apart_through k m s i j h g in
      let a = and_parts (shadows k m) (not (shadows m k) || stands_earlier rules k m) h in
      let b = and_parts (shadows m s) (not (shadows s m) || stands_earlier rules m s) g in
      and_from (shadows k s) (not (shadows s k) || stands_earlier rules k s) (shadows_through k m s (is_rule m l) apart a.0 b.0)
      (⊎_elim
      (λ (back : shadows s k ≡ true).
      let first : shadows m k ≡ true = shadows_through m s k (is_rule s j) (apart_back k.id m.id (other_id k m a.0)) b.0 back in
      let second : shadows s m ≡ true = shadows_through s k m (is_rule k i) (apart_back m.id s.id (other_id m s b.0)) back a.0 in
      or_right (not (shadows s k)) (stands_earlier rules k s)
      (⊎_elim (λ no. absurd (true≢false (sym first ∙ not-true (shadows m k) no)))
      (λ x. ⊎_elim (λ no. absurd (true≢false (sym second ∙ not-true (shadows s m) no))) (λ y. earlier_through rules k m s x y) (or_cases (not (shadows s m)) (stands_earlier rules m s) b.1))
      (or_cases (not (shadows m k)) (stands_earlier rules k m) a.1)))
      (λ (none : shadows s k ≡ false). or_left (not (shadows s k)) (stands_earlier rules k s) (not_from_false (shadows s k) none))
      (cases_Bool (shadows s k)))

  never_itself : (r : Rule) → outdoes rules r r ≡ false
  never_itself r = false_from_ne_true (outdoes rules r r) (λ h. true≢false (sym (eq-eqb r.id r.id refl) ∙ other_id r r (and_parts (shadows r r) _ h).0))

  -- one of a list that none of it outdoes
  topmost : (x : Rule) (xs : List Rule) → ((r : Rule) → In r (x ∷ xs) → In r rules) → (w : Rule) × In w (x ∷ xs) × ((o : Rule) → In o (x ∷ xs) → outdoes rules o w ≡ false)
  topmost x [] inside = (x, inl refl, lone)
    where
      lone : (o : Rule) → In o (x ∷ []) → outdoes rules o x ≡ false
      lone o (inl e) = ap (λ r. outdoes rules r x) (sym e) ∙ never_itself x
      lone o (inr i) = absurd i
  topmost x (y ∷ ys) inside =
      let r = topmost y ys (λ z i. inside z (inr i)) in
      ⊎_elim
      (λ (wins : outdoes rules x r.0 ≡ true). (x, inl refl, first_wins r.0 (inside r.0 (inr r.1)) r.2 wins))
      (λ (loses : outdoes rules x r.0 ≡ false). (r.0, inr r.1, first_loses r.0 r.2 loses))
      (cases_Bool (outdoes rules x r.0))
    where
      first_wins : (w : Rule) → In w rules → ((o : Rule) → In o (y ∷ ys) → outdoes rules o w ≡ false) → outdoes rules x w ≡ true → (o : Rule) → In o (x ∷ y ∷ ys) → outdoes rules o x ≡ false
      first_wins w j none wins o (inl e) = ap (λ r. outdoes rules r x) (sym e) ∙ never_itself x
      first_wins w j none wins o (inr i) =
          false_from_ne_true (outdoes rules o x) (λ more. true≢false (sym (outdoes_through o x w (inside o (inr i)) (inside x (inl refl)) j more wins) ∙ none o i))

      first_loses : (w : Rule) → ((o : Rule) → In o (y ∷ ys) → outdoes rules o w ≡ false) → outdoes rules x w ≡ false → (o : Rule) → In o (x ∷ y ∷ ys) → outdoes rules o w ≡ false
      first_loses w none loses o (inl e) = ap (λ r. outdoes rules r w) (sym e) ∙ loses
      first_loses w none loses o (inr i) = none o i

  topmost_in : (list : List Rule) (k : Rule) → In k list → ((r : Rule) → In r list → In r rules) → (w : Rule) × In w list × ((o : Rule) → In o list → outdoes rules o w ≡ false)
  topmost_in [] k i inside = absurd i
  topmost_in (x ∷ xs) k i inside = topmost x xs inside

  -- a needless rule is outdone by one that is kept
  has_keeper : (s : Rule) → In s rules → is_needless rules s ≡ true → (k : Rule) × In k (kept rules) × (outdoes rules k s ≡ true)
  has_keeper s i h =
      let above = filter (λ k. outdoes rules k s) rules in
      let first = any_out (λ k. outdoes rules k s) rules h in
      let top = topmost_in above first.0 (in_filtered (λ k. outdoes rules k s) first.0 rules first.1 first.2) (λ r j. (in_unfiltered (λ k. outdoes rules k s) r rules j).0) in
      let w = top.0 in
      let out = in_unfiltered (λ k. outdoes rules k s) w rules top.1 in
      let free : is_needless rules w ≡ false = none_out (λ k. outdoes rules k w) rules (λ o j. false_from_ne_true (outdoes rules o w) (λ more.
      true≢false (sym more ∙ top.2 o (in_filtered (λ k. outdoes rules k s) o rules j (outdoes_through o w s j out.0 i more out.1))))) in
      (w, in_filtered (λ rule. not (is_needless rules rule)) w rules out.0 (not_from_false (is_needless rules w) free), out.1)

  -- ---- what the removals show

  -- the entry of a needless rule
  named : (s : Rule) → In s rules → is_needless rules s ≡ true → (k : Rule) × In k (kept rules) × (shadows k s ≡ true) × (find (λ one. outdoes rules one s) (kept rules) ≡ Some k)
  named s i h =
      let keeper = has_keeper s i h in
      let f = find_some (λ one. outdoes rules one s) (kept rules) keeper.0 keeper.1 keeper.2 in
      let t = find_there (λ one. outdoes rules one s) (kept rules) f.0 f.1 in
      (f.0, t.0, (and_parts (shadows f.0 s) (not (shadows s f.0) || stands_earlier rules f.0 s) t.1).0, f.1)

  found_rule : (r : Rule) → In r rules → rule_of rules r.id ≡ Some r
  found_rule r i =
      let f = find_some (λ one. one.id == r.id) rules r i (eq-eqb r.id r.id refl) in
      let t = find_there (λ one. one.id == r.id) rules f.0 f.1 in
      f.1 ∙ ap Some (same_rule rules differ f.0 r t.0 i (eqb-true f.0.id r.id t.1))

  -- what an entry removes is a needless rule
  removed_is : (id : ℕ) (todo : List Rule) → ((s : Rule) → In s todo → In s rules × (is_needless rules s ≡ true)) → is_removed (removals_from rules (kept rules) todo) id ≡ true → (s : Rule) × In s todo × (s.id ≡ id)
  removed_is id [] are h = absurd (true≢false (sym h))
  removed_is id (s ∷ todo) are h =
      let n = named s (are s (inl refl)).0 (are s (inl refl)).1 in
      let cut : removals_from rules (kept rules) (s ∷ todo) ≡ record { removed = s.id; by = n.0.id } ∷ removals_from rules (kept rules) todo = ap (λ o. named_by s o ++ removals_from rules (kept rules) todo) n.3 in
      let there = sym (ap (λ (l : List Shadow). is_removed l id) cut) ∙ h in
      ⊎_elim (λ here. (s, inl refl, eqb-true s.id id here))
      (λ later. let r = removed_is id todo (λ x i. are x (inr i)) later in (r.0, inr r.1, r.2))
      (or_cases (s.id == id) (is_removed (removals_from rules (kept rules) todo) id) there)

  -- and each needless rule is removed
  is_gone : (s : Rule) (todo : List Rule) → ((x : Rule) → In x todo → In x rules × (is_needless rules x ≡ true)) → In s todo → is_removed (removals_from rules (kept rules) todo) s.id ≡ true
  is_gone s [] are i = absurd i
  is_gone s (x ∷ todo) are i =
      let n = named x (are x (inl refl)).0 (are x (inl refl)).1 in
      let cut : removals_from rules (kept rules) (x ∷ todo) ≡ record { removed = x.id; by = n.0.id } ∷ removals_from rules (kept rules) todo = ap (λ o. named_by x o ++ removals_from rules (kept rules) todo) n.3 in
      ap (λ (l : List Shadow). is_removed l s.id) cut
      ∙ ⊎_elim
      (λ (e : x ≡ s). or_left (x.id == s.id) (is_removed (removals_from rules (kept rules) todo) s.id) (eq-eqb x.id s.id (ap (λ (r : Rule). r.id) e)))
      (λ j. or_right (x.id == s.id) (is_removed (removals_from rules (kept rules) todo) s.id) (is_gone s todo (λ y l. are y (inr l)) j))
      i

  needless_all : (s : Rule) → In s (filter (is_needless rules) rules) → In s rules × (is_needless rules s ≡ true)
  needless_all s i = in_unfiltered (is_needless rules) s rules i

  gone_as : (r : Rule) → In r rules → is_removed (removals rules) r.id ≡ is_needless rules r
  gone_as r i =
      ⊎_elim
      (λ (yes : is_needless rules r ≡ true). is_gone r (filter (is_needless rules) rules) needless_all (in_filtered (is_needless rules) r rules i yes) ∙ sym yes)
      (λ (no : is_needless rules r ≡ false). false_from_ne_true (is_removed (removals rules) r.id) (λ gone.
      let s = removed_is r.id (filter (is_needless rules) rules) needless_all gone in
      let all = needless_all s.0 s.1 in
      let same = same_rule rules differ s.0 r all.0 i s.2 in
      true≢false (sym all.1 ∙ ap (is_needless rules) same ∙ no)) ∙ sym no)
      (cases_Bool (is_needless rules r))

  -- ---- no entry is at fault

  faultless : (earlier : List Shadow) (place : ℕ) (s k : Rule) → In s rules → In k (kept rules) → shadows k s ≡ true → is_removed earlier s.id ≡ false
      → fault_of rules (removals rules) earlier place (record { removed = s.id; by = k.id }) ≡ None
  faultless earlier place s k i j h free =
      let one : Shadow = record { removed = s.id; by = k.id } in
      let k_in = in_unfiltered (λ rule. not (is_needless rules rule)) k rules j in
      let stays : is_removed (removals rules) k.id ≡ false = gone_as k k_in.0 ∙ not-true (is_needless rules k) k_in.1 in
      let s_is = found_rule s i in
      let k_is = found_rule k k_in.0 in
      let known : is_known rules one ≡ true = λ n. is_some (s_is n) && is_some (k_is n) in
      let true_is : holds_true rules one ≡ true = (λ n. is_shadowed (k_is n) (s_is n)) ∙ h in
      λ n. cond (not (known n)) (Some (UnknownId place)) (cond (free n) (Some (RemovedTwice place)) (cond (stays n) (Some (KeeperRemoved place)) (cond (not (true_is n)) (Some (NotShadowed place)) None)))

  none_faulty : (earlier : List Shadow) (place : ℕ) (todo : List Rule) → IdsDiffer todo → ((s : Rule) → In s todo → In s rules × (is_needless rules s ≡ true)) → ((s : Rule) → In s todo → is_removed earlier s.id ≡ false)
      → first_fault rules (removals rules) earlier place (removals_from rules (kept rules) todo) ≡ None
  none_faulty earlier place [] apart all free = refl
  none_faulty earlier place (s ∷ todo) apart all free =
      let n = named s (all s (inl refl)).0 (all s (inl refl)).1 in
      let one : Shadow = record { removed = s.id; by = n.0.id } in
      let cut : removals_from rules (kept rules) (s ∷ todo) ≡ one ∷ removals_from rules (kept rules) todo = ap (λ o. named_by s o ++ removals_from rules (kept rules) todo) n.3 in
      ap (first_fault rules (removals rules) earlier place) cut
      ∙ ap (λ o. or_later o (first_fault rules (removals rules) (earlier ++ one ∷ []) (place + 1) (removals_from rules (kept rules) todo)))
      (faultless earlier place s n.0 (all s (inl refl)).0 n.1 n.2 (free s (inl refl)))
      ∙ none_faulty (earlier ++ one ∷ []) (place + 1) todo apart.1 (λ x i. all x (inr i))
      (λ x i. any_with (λ (e : Shadow). e.removed == x.id) earlier one []
      ∙ or_from (s.id == x.id) _ (apart_back x.id s.id (none_in (λ (r : Rule). r.id == s.id) x todo apart.0 i))
      (ap (λ (l : List Shadow). is_removed l x.id) (append-nil earlier) ∙ free x (inr i)))

  differ_filtered : (test : Rule → Bool) (list : List Rule) → IdsDiffer list → IdsDiffer (filter test list)
  differ_filtered test [] apart = tt
  differ_filtered test (x ∷ list) apart = by (test x)
      (none_out (λ (r : Rule). r.id == x.id) (filter test list) (λ r i. none_in (λ (o : Rule). o.id == x.id) r list apart.0 (in_unfiltered test r list i).0))
      (differ_filtered test list apart.1)
    where
      by : (b : Bool) → has_id (filter test list) x.id ≡ false → IdsDiffer (filter test list) → IdsDiffer (cond b (x ∷ filter test list) (filter test list))
      by true h rest = (h, rest)
      by false h rest = rest

  same_filter : (f g : Rule → Bool) (list : List Rule) → ((r : Rule) → In r list → f r ≡ g r) → filter f list ≡ filter g list
  same_filter f g [] same = refl
  same_filter f g (x ∷ list) same =
      let rest = same_filter f g list (λ r i. same r (inr i)) in
      let here = same x (inl refl) in
      λ n. cond (here n) (x ∷ rest n) (rest n)

  accepted : checked rules (removals rules) ≡ Ok (kept rules)
  accepted =
      let none = none_faulty [] 0 (filter (is_needless rules) rules) (differ_filtered (is_needless rules) rules differ) needless_all (λ s i. refl) in
      let rest : rest_of rules (removals rules) ≡ kept rules = same_filter (λ rule. not (is_removed (removals rules) rule.id)) (λ rule. not (is_needless rules rule)) rules (λ r i. ap not (gone_as r i)) in
      λ n. unless_at_fault (rest n) (none n)

pub found_is_accepted : FoundIsAccepted
found_is_accepted rules are differ = accepted rules (each_of_all IsRule rules are) differ
