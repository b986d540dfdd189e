-- Lists that are taken as sets and stand in one order.
use Rattle.std.proofs.Common.{◌≡◌, ℕ, ℤ, ◌<◌, List, [], ◌∷◌, ◌++◌, length, fold, Bool, true, false, cond, ◌&&◌, ◌||◌, Ordering, Less, Equal, Greater, nat_cmp, refl, sym, ap, ◌∙◌, arith, append-nil, append_assoc}
use Rattle.std.specs.List.{AllByRecursion, list_all, list_any}
use Rattle.std.specs.Ordering.{match_ordering, ordering_reverse, is_eq, int_cmp, int_eq}
use Rattle.std.specs.Cmp.{IsTotalOrder}
use Rattle.std.specs.BTreeSet.{insert_key}
use Rattle.std.specs.Cmp.Lexicographic.{slice_cmp}
use Rattle.std.proofs.lemmas.Cmp.{int_cmp_total, nat_list_cmp_total}
use Rattle.std.proofs.lemmas.Bool.Decides.{Decides-int_eq}
use Rattle.std.proofs.lemmas.Map.Text.{is_eq-slice_cmp}
use Rattle.std.proofs.lemmas.Slice.Eq.{bytes_eq-Decides}
use Rattle.rule_spec.specs.Holds.{has_tab}
use Rattle.json_spec.specs.RuleFields.{with_tab, tab_set}
use Rattle.json_spec.specs.Written.{with_tab_in_place, ascending_domains, ascending_tabs}

-- ---- what an insertion keeps

pub both : (a b : Bool) → (a && b) ≡ true → (a ≡ true) × (b ≡ true)
both true b h = (refl, h)
both false b h = cc

pub all_more : (a b : Bool) → a ≡ true → b ≡ true → (a && b) ≡ true
all_more true b p q = q
all_more false b p q = cc

module _ {X : Type 0} (cmp : X → X → Ordering) where
  inserted-all : (test : X → Bool) (list : List X) (x : X) → list_all test list ≡ true → test x ≡ true → list_all test (insert_key cmp list x) ≡ true
  inserted-all test [] x h p = all_more (test x) true p refl
  inserted-all test (y ∷ list) x h p = by (cmp x y) (inserted-all test list x (both (test y) (list_all test list) h).1 p)
    where
      by : (o : Ordering) → list_all test (insert_key cmp list x) ≡ true → list_all test (match_ordering o (x ∷ y ∷ list) (y ∷ list) (y ∷ insert_key cmp list x)) ≡ true
      by Less rest = all_more (test x) (list_all test (y ∷ list)) p h
      by Equal rest = h
      by Greater rest = all_more (test y) (list_all test (insert_key cmp list x)) (both (test y) (list_all test list) h).0 rest

  -- a set has what its list has
  pub set_all : (test : X → Bool) (list start : List X) → list_all test start ≡ true → list_all test list ≡ true → list_all test (fold (insert_key cmp) start list) ≡ true
  set_all test [] start h p = h
  set_all test (x ∷ list) start h p =
      let q = both (test x) (list_all test list) p in
      set_all test list (insert_key cmp start x) (inserted-all test start x h q.0) q.1

  inserted-some : (list : List X) (x : X) → 0 < length (insert_key cmp list x)
  inserted-some [] x = omega arith
  inserted-some (y ∷ list) x = by (cmp x y)
    where
      by : (o : Ordering) → 0 < length (match_ordering o (x ∷ y ∷ list) (y ∷ list) (y ∷ insert_key cmp list x))
      by Less = omega arith
      by Equal = omega arith
      by Greater = omega arith

  set-some : (list start : List X) → 0 < length start → 0 < length (fold (insert_key cmp) start list)
  set-some [] start h = h
  set-some (x ∷ list) start h = set-some list (insert_key cmp start x) (inserted-some start x)

  -- the set of a list that is not empty is not empty
  pub set_some : (list : List X) → 0 < length list → 0 < length (fold (insert_key cmp) [] list)
  set_some [] h = h
  set_some (x ∷ list) h = set-some list (x ∷ []) (omega arith)

-- ---- sets ascend

module _ {X : Type 0} (cmp : X → X → Ordering) where
  abbrev pub IsAbove : X → List X → Type 0
  IsAbove x list = AllByRecursion (λ y. cmp x y ≡ Less) list

  abbrev pub Ascends : List X → Type 0
  Ascends [] = Unit {0}
  Ascends (x ∷ list) = IsAbove x list × Ascends list

module _ {X : Type 0} (cmp : X → X → Ordering) (order : IsTotalOrder cmp) where
  above_through : (x y : X) (list : List X) → cmp x y ≡ Less → IsAbove cmp y list → IsAbove cmp x list
  above_through x y [] h a = tt
  above_through x y (z ∷ list) h a = (order.trans x y z h a.0, above_through x y list h a.1)

  inserted-above : (y x : X) (list : List X) → cmp y x ≡ Less → IsAbove cmp y list → IsAbove cmp y (insert_key cmp list x)
  inserted-above y x [] h a = (h, tt)
  inserted-above y x (z ∷ list) h a = by (cmp x z) (inserted-above y x list h a.1)
    where
      by : (o : Ordering) → IsAbove cmp y (insert_key cmp list x) → IsAbove cmp y (match_ordering o (x ∷ z ∷ list) (z ∷ list) (z ∷ insert_key cmp list x))
      by Less rest = (h, a)
      by Equal rest = a
      by Greater rest = (a.0, rest)

  inserted-ascends : (list : List X) (x : X) → Ascends cmp list → Ascends cmp (insert_key cmp list x)
  inserted-ascends [] x a = (tt, tt)
  inserted-ascends (y ∷ list) x a = by (cmp x y) refl (inserted-ascends list x a.1)
    where
      by : (o : Ordering) → cmp x y ≡ o → Ascends cmp (insert_key cmp list x) → Ascends cmp (match_ordering o (x ∷ y ∷ list) (y ∷ list) (y ∷ insert_key cmp list x))
      by Less is rest = ((is, above_through x y list is a.0), a)
      by Equal is rest = a
      by Greater is rest = (inserted-above y x list (order.antisymm y x ∙ ap ordering_reverse is) a.0, rest)

  pub set_ascends : (list start : List X) → Ascends cmp start → Ascends cmp (fold (insert_key cmp) start list)
  set_ascends [] start a = a
  set_ascends (x ∷ list) start a = set_ascends list (insert_key cmp start x) (inserted-ascends start x a)

-- each of these is below this one
abbrev AreBelow : {X : Type 0} → (X → X → Ordering) → List X → X → Type 0
AreBelow cmp done x = AllByRecursion (λ y. cmp y x ≡ Less) done

-- each of the first is below each of the second
abbrev AllBelow : {X : Type 0} → (X → X → Ordering) → List X → List X → Type 0
AllBelow cmp done list = AllByRecursion (λ x. AreBelow cmp done x) list

module _ {X : Type 0} (cmp : X → X → Ordering) where
  below-more : (done : List X) (x y : X) → AreBelow cmp done y → cmp x y ≡ Less → AreBelow cmp (done ++ x ∷ []) y
  below-more [] x y a h = (h, tt)
  below-more (z ∷ done) x y a h = (a.0, below-more done x y a.1 h)

  all-below-more : (done : List X) (x : X) (list : List X) → AllBelow cmp done list → IsAbove cmp x list → AllBelow cmp (done ++ x ∷ []) list
  all-below-more done x [] a h = tt
  all-below-more done x (y ∷ list) a h = (below-more done x y a.0 h.0, all-below-more done x list a.1 h.1)

  all-behind-nothing : (list : List X) → AllBelow cmp [] list
  all-behind-nothing [] = tt
  all-behind-nothing (x ∷ list) = (tt, all-behind-nothing list)

module _ {X : Type 0} (cmp : X → X → Ordering) (order : IsTotalOrder cmp) where
  inserted-last : (done : List X) (x : X) → AreBelow cmp done x → insert_key cmp done x ≡ done ++ x ∷ []
  inserted-last [] x a = refl
  inserted-last (y ∷ done) x a =
      ap (λ o. match_ordering o (x ∷ y ∷ done) (y ∷ done) (y ∷ insert_key cmp done x)) (order.antisymm x y ∙ ap ordering_reverse a.0)
      ∙ ap (λ l. y ∷ l) (inserted-last done x a.1)

  set-kept : (list done : List X) → Ascends cmp list → AllBelow cmp done list → fold (insert_key cmp) done list ≡ done ++ list
  set-kept [] done a b = sym (append-nil done)
  set-kept (x ∷ list) done a b =
      ap (λ l. fold (insert_key cmp) l list) (inserted-last done x b.0) ∙ set-kept list (done ++ x ∷ []) a.1 (all-below-more cmp done x list b.1 a.0)
      ∙ append_assoc done (x ∷ []) list

  -- a set is no other when it is taken as a set
  pub set_again : (list : List X) → fold (insert_key cmp) [] (fold (insert_key cmp) [] list) ≡ fold (insert_key cmp) [] list
  set_again list = let set = fold (insert_key cmp) [] list in set-kept set [] (set_ascends cmp order list [] tt) (all-behind-nothing cmp set)

-- ---- members of sets

or_twice : (b c : Bool) → (b || c) ≡ (b || (b || c))
or_twice true c = refl
or_twice false c = refl

or_turned : (a b c : Bool) → (b || (a || c)) ≡ (a || (b || c))
or_turned true true c = refl
or_turned true false c = refl
or_turned false b c = refl

or_moved : (a b c : Bool) → ((a || b) || c) ≡ (b || (a || c))
or_moved true true c = refl
or_moved true false c = refl
or_moved false b c = refl

module _ {X : Type 0} (cmp : X → X → Ordering) (exact : (x y : X) → cmp x y ≡ Equal → x ≡ y) (test : X → Bool) where
  inserted-any : (list : List X) (x : X) → list_any test (insert_key cmp list x) ≡ (test x || list_any test list)
  inserted-any [] x = refl
  inserted-any (y ∷ list) x = by (cmp x y) refl (inserted-any list x)
    where
      by : (o : Ordering) → cmp x y ≡ o → list_any test (insert_key cmp list x) ≡ (test x || list_any test list)
          → list_any test (match_ordering o (x ∷ y ∷ list) (y ∷ list) (y ∷ insert_key cmp list x)) ≡ (test x || (test y || list_any test list))
      by Less is rest = refl
      by Equal is rest = or_twice (test y) (list_any test list) ∙ ap (λ z. test z || (test y || list_any test list)) (sym (exact x y is))
      by Greater is rest = ap (λ b. test y || b) rest ∙ or_turned (test x) (test y) (list_any test list)

  -- a set has what its list has
  pub set_any : (list start : List X) → list_any test (fold (insert_key cmp) start list) ≡ (list_any test start || list_any test list)
  set_any [] start = by (list_any test start)
    where
      by : (b : Bool) → b ≡ (b || false)
      by true = refl
      by false = refl
  set_any (x ∷ list) start =
      set_any list (insert_key cmp start x) ∙ ap (λ b. b || list_any test list) (inserted-any start x) ∙ or_moved (test x) (list_any test start) (list_any test list)

-- ---- domains

same_domain : (one other : List ℕ) → slice_cmp nat_cmp one other ≡ Equal → one ≡ other
same_domain one other is = (bytes_eq-Decides one other).0 (sym (is_eq-slice_cmp one other) ∙ ap is_eq is)

pub domains_any : (test : List ℕ → Bool) (domains : List (List ℕ)) → list_any test (ascending_domains domains) ≡ list_any test domains
domains_any test domains = set_any (slice_cmp nat_cmp) same_domain test domains []

pub domains_again : (domains : List (List ℕ)) → ascending_domains (ascending_domains domains) ≡ ascending_domains domains
domains_again domains = set_again (slice_cmp nat_cmp) nat_list_cmp_total domains

-- ---- tabs

apart : (a b : ℤ) → int_cmp a b ≡ Less → int_eq b a ≡ false
apart a b h = ap is_eq (int_cmp_total.antisymm b a ∙ ap ordering_reverse h)

same_tab : (one other : ℤ) → int_cmp one other ≡ Equal → one ≡ other
same_tab one other is = (Decides-int_eq one other).0 (ap is_eq is)

pub tabs_any : (test : ℤ → Bool) (tabs : List ℤ) → list_any test (ascending_tabs tabs) ≡ list_any test tabs
unfolding with_tab_in_place
tabs_any test tabs = set_any int_cmp same_tab test tabs []

pub tabs_again : (tabs : List ℤ) → ascending_tabs (ascending_tabs tabs) ≡ ascending_tabs tabs
unfolding with_tab_in_place
tabs_again tabs = set_again int_cmp int_cmp_total tabs

lacks : (done : List ℤ) (tab : ℤ) → AreBelow int_cmp done tab → has_tab done tab ≡ false
lacks [] tab a = refl
lacks (other ∷ done) tab a = rw (apart other tab a.0, lacks done tab a.1)

tabs-kept : (tabs done : List ℤ) → Ascends int_cmp tabs → AllBelow int_cmp done tabs → fold with_tab done tabs ≡ done ++ tabs
tabs-kept [] done a b = sym (append-nil done)
tabs-kept (tab ∷ tabs) done a b =
    ap (λ found. fold with_tab (cond found done (done ++ tab ∷ [])) tabs) (lacks done tab b.0)
    ∙ tabs-kept tabs (done ++ tab ∷ []) a.1 (all-below-more int_cmp done tab tabs b.1 a.0)
    ∙ append_assoc done (tab ∷ []) tabs

-- tabs in their order are no others when they are taken as a set
pub tab_set-ascending : (tabs : List ℤ) → tab_set (ascending_tabs tabs) ≡ ascending_tabs tabs
unfolding with_tab_in_place
tab_set-ascending tabs = tabs-kept (ascending_tabs tabs) [] (set_ascends int_cmp int_cmp_total tabs [] tt) (all-behind-nothing int_cmp (ascending_tabs tabs))

pub tabs_all : (test : ℤ → Bool) (tabs : List ℤ) → list_all test tabs ≡ true → list_all test (ascending_tabs tabs) ≡ true
unfolding with_tab_in_place
tabs_all test tabs h = set_all int_cmp test tabs [] refl h

pub tabs_some : (tabs : List ℤ) → 0 < length tabs → 0 < length (ascending_tabs tabs)
unfolding with_tab_in_place
tabs_some tabs h = set_some int_cmp tabs h
