-- What is kept name by name, in ascending order of the names, is the list in order.
use Rattle.std.proofs.Common.{◌≡◌, ◌⊎◌, ℕ, List, [], ◌∷◌, ◌++◌, map, filter, bytes_eq, Bool, true, false, cond, not, Option, Some, None, refl, sym, ap, ◌∙◌, subst, ⊎_elim, inl, inr}
use Rattle.std.specs.List.{AllByRecursion}
use Rattle.std.specs.List.Sorted.{IsStrictlySortedBy}
use Rattle.std.specs.declared.cmp.Ordering.{Ordering}
use Rattle.std.specs.declared.cmp.Ordering.TheVariants.{Less, Equal, Greater}
use Rattle.std.specs.Ordering.{nat_cmp, is_lt, is_eq, ordering_reverse}
use Rattle.std.specs.Cmp.Lexicographic.{slice_cmp}
use Rattle.std.specs.Borrow.{Bor}
use Rattle.std.specs.BTreeMap.{is_at}
use Rattle.std.specs.Map.{lookup}
use Rattle.std.proofs.lemmas.Bool.{cases_Bool, cond-true, cond-false, true≢false}
use Rattle.std.proofs.lemmas.Cmp.{nat_list_cmp_total}
use Rattle.std.proofs.lemmas.Map.Text.{is_eq-slice_cmp}
use Rattle.dnr_base.specs.declared.header.Header.{Header}
use Rattle.dnr_spec.specs.Headers.{without, placed, in_order}
use Rattle.header_actions.specs.Table.{values_of, Texts, kept_of, headers_of, listed, by_name}
use Rattle.header_actions.proofs.Settled.{bytes_same, bytes_eq_itself, bytes_turned}
use Rattle.header_actions.proofs.Changed.{values_there, values_without_same, values_without_other}

-- ---- the order of names

abbrev compared : List ℕ → List ℕ → Ordering
compared a b = slice_cmp nat_cmp a b

abbrev is_below : List ℕ → List ℕ → Bool
is_below a b = is_lt (compared a b)

turned : (a b : List ℕ) → compared b a ≡ ordering_reverse (compared a b)
turned a b = nat_list_cmp_total.antisymm b a

not_less_itself : (o : Ordering) → o ≡ ordering_reverse o → is_lt o ≡ false
not_less_itself Less h = cc
not_less_itself Equal h = refl
not_less_itself Greater h = refl

never_below_itself : (a : List ℕ) → is_below a a ≡ false
never_below_itself a = not_less_itself (compared a a) (turned a a)

other_way : (o : Ordering) → is_lt o ≡ false → is_eq o ≡ false → is_lt (ordering_reverse o) ≡ true
other_way Less h g = cc
other_way Equal h g = cc
other_way Greater h g = refl

-- a name that is not below another, and is another, is above it
above : (a k : List ℕ) → is_below a k ≡ false → bytes_eq a k ≡ false → is_below k a ≡ true
above a k not_below apart = ap is_lt (turned a k) ∙ other_way (compared a k) not_below (is_eq-slice_cmp a k ∙ apart)

not_less_back : (o : Ordering) → o ≡ Less → is_lt (ordering_reverse o) ≡ false
not_less_back o h = ap (λ p. is_lt (ordering_reverse p)) h

not_below_smaller : (k y : List ℕ) → compared k y ≡ Less → is_below y k ≡ false
not_below_smaller k y h = ap is_lt (turned k y) ∙ not_less_back (compared k y) h

apart_smaller : (k y : List ℕ) → compared k y ≡ Less → is_eq (compared k y) ≡ false
apart_smaller k y h = ap is_eq h

less_of : (o : Ordering) → is_lt o ≡ true → o ≡ Less
less_of Less h = refl
less_of Equal h = cc
less_of Greater h = cc

-- ---- facts of each element

module _ {X : Type 0} where
  all_weaker : (P Q : X → Type 0) → ((x : X) → P x → Q x) → (xs : List X) → AllByRecursion P xs → AllByRecursion Q xs
  all_weaker P Q f [] h = tt
  all_weaker P Q f (x ∷ xs) h = (f x h.0, all_weaker P Q f xs h.1)

  all_append : (P : X → Type 0) (xs ys : List X) → AllByRecursion P xs → AllByRecursion P ys → AllByRecursion P (xs ++ ys)
  all_append P [] ys h g = g
  all_append P (x ∷ xs) ys h g = (h.0, all_append P xs ys h.1 g)

  all_cond : (P : X → Type 0) (b : Bool) (xs ys : List X) → AllByRecursion P xs → AllByRecursion P ys → AllByRecursion P (cond b xs ys)
  all_cond P true xs ys h g = h
  all_cond P false xs ys h g = g

  all_filter : (P : X → Type 0) (test : X → Bool) (xs : List X) → AllByRecursion P xs → AllByRecursion P (filter test xs)
  all_filter P test [] h = tt
  all_filter P test (x ∷ xs) h = all_cond P (test x) (x ∷ filter test xs) (filter test xs) (h.0, all_filter P test xs h.1) (all_filter P test xs h.1)

  all_pass : (test : X → Bool) (xs : List X) → AllByRecursion (λ x. test x ≡ true) (filter test xs)
  all_pass test [] = tt
  all_pass test (x ∷ xs) =
      ⊎_elim
      (λ (yes : test x ≡ true). subst (AllByRecursion (λ y. test y ≡ true)) (sym (cond-true (test x) (x ∷ filter test xs) (filter test xs) yes)) (yes, all_pass test xs))
      (λ (no : test x ≡ false). subst (AllByRecursion (λ y. test y ≡ true)) (sym (cond-false (test x) (x ∷ filter test xs) (filter test xs) no)) (all_pass test xs))
      (cases_Bool (test x))

  abbrev IsIn : X → List X → Type 0
  IsIn x [] = ⊥
  IsIn x (y ∷ ys) = (x ≡ y) ⊎ IsIn x ys

  all_in : (P : X → Type 0) (xs : List X) → ((x : X) → IsIn x xs → P x) → AllByRecursion P xs
  all_in P [] f = tt
  all_in P (x ∷ xs) f = (f x (inl refl), all_in P xs (λ y at. f y (inr at)))

all_mapped : {X Y : Type 0} (P : Y → Type 0) (f : X → Y) (xs : List X) → AllByRecursion P (map f xs) → AllByRecursion (λ x. P (f x)) xs
all_mapped P f [] h = tt
all_mapped P f (x ∷ xs) h = (h.0, all_mapped P f xs h.1)

-- ---- lists in order

all_placed : (P : Header → Type 0) (h : Header) (l : List Header) → P h → AllByRecursion P l → AllByRecursion P (placed h l)
all_placed P h [] p ps = (p, tt)
all_placed P h (first ∷ rest) p ps =
    all_cond P (is_below first.name h.name) (first ∷ placed h rest) (h ∷ first ∷ rest) (ps.0, all_placed P h rest p ps.1) (p, ps)

all_in_order : (P : Header → Type 0) (l : List Header) → AllByRecursion P l → AllByRecursion P (in_order l)
all_in_order P [] h = tt
all_in_order P (x ∷ l) h = all_placed P x (in_order l) h.0 (all_in_order P l h.1)

placed_front : (h : Header) (l : List Header) → AllByRecursion (λ x. is_below x.name h.name ≡ false) l → placed h l ≡ h ∷ l
placed_front h [] all = refl
placed_front h (first ∷ rest) all = cond-false (is_below first.name h.name) (first ∷ placed h rest) (h ∷ first ∷ rest) all.0

placed_behind : (h : Header) (k l : List Header) → AllByRecursion (λ x. is_below x.name h.name ≡ true) k → placed h (k ++ l) ≡ k ++ placed h l
placed_behind h [] l all = refl
placed_behind h (first ∷ rest) l all =
    cond-true (is_below first.name h.name) (first ∷ placed h (rest ++ l)) (h ∷ first ∷ rest ++ l) all.0 ∙ ap (λ r. first ∷ r) (placed_behind h rest l all.1)

abbrev named : List ℕ → List Header → List Header
named k l = filter (λ h. bytes_eq h.name k) l

-- the headers of the smallest name come first
first_name : (k : List ℕ) (l : List Header) → AllByRecursion (λ x. is_below x.name k ≡ false) l → in_order l ≡ named k l ++ in_order (without k l)
first_name k [] all = refl
first_name k (h ∷ l) all =
    let rest = first_name k l all.1 in
    let later = in_order (without k l) in
    ⊎_elim
    (λ (here : bytes_eq h.name k ≡ true).
    let e = bytes_same h.name k here in
    let low = λ (n : List ℕ). λ (xs : List Header). AllByRecursion (λ (x : Header). is_below x.name n ≡ false) xs in
    let front : low h.name (named k l ++ later) =
    subst (λ (n : List ℕ). low n (named k l ++ later)) (sym e)
    (all_append _ (named k l) later (all_filter _ _ l all.1) (all_in_order _ (without k l) (all_filter _ _ l all.1))) in
    ap (placed h) rest ∙ placed_front h (named k l ++ later) front
    ∙ ap (λ r. r ++ later) (sym (cond-true (bytes_eq h.name k) (h ∷ named k l) (named k l) here))
    ∙ ap (λ r. named k (h ∷ l) ++ in_order r) (sym (cond-false (not (bytes_eq h.name k)) (h ∷ without k l) (without k l) (ap not here))))
    (λ (there : bytes_eq h.name k ≡ false).
    let up = above h.name k all.0 there in
    let behind = all_weaker (λ (x : Header). bytes_eq x.name k ≡ true) (λ (x : Header). is_below x.name h.name ≡ true) (λ x same. ap (λ n. is_below n h.name) (bytes_same x.name k same) ∙ up) (named k l) (all_pass (λ (x : Header). bytes_eq x.name k) l) in
    ap (placed h) rest ∙ placed_behind h (named k l) later behind
    ∙ ap (λ r. r ++ placed h later) (sym (cond-false (bytes_eq h.name k) (h ∷ named k l) (named k l) there))
    ∙ ap (λ r. named k (h ∷ l) ++ in_order r) (sym (cond-true (not (bytes_eq h.name k)) (h ∷ without k l) (without k l) (ap not there))))
    (cases_Bool (bytes_eq h.name k))

-- ---- what is kept

abbrev Entries : Type 0
Entries = List (Bor (List ℕ) × Texts)

abbrev found : List ℕ → Entries → Option Texts
found q entries = lookup (is_at (λ k. compared q k.now)) entries

not_found : (q : List ℕ) (entries : Entries) → AllByRecursion (λ e. is_eq (compared q e.0.now) ≡ false) entries → found q entries ≡ None
not_found q [] all = refl
not_found q (e ∷ entries) all = cond-false (is_eq (compared q e.0.now)) (Some e.1) (found q entries) all.0 ∙ not_found q entries all.1

headers_named : (k : List ℕ) (l : List Header) → headers_of k (values_of k l) ≡ named k l
headers_named k [] = refl
headers_named k (h ∷ l) =
    let rest = headers_named k l in
    let heads = λ (xs : List Header). headers_of k (map (λ (x : Header). x.value) xs) in
    ⊎_elim
    (λ (here : bytes_eq h.name k ≡ true).
    ap heads (cond-true (bytes_eq h.name k) (h ∷ named k l) (named k l) here)
    ∙ ap (λ n. record { name = n; value = h.value } ∷ headers_of k (values_of k l)) (sym (bytes_same h.name k here))
    ∙ ap (λ r. h ∷ r) rest
    ∙ sym (cond-true (bytes_eq h.name k) (h ∷ named k l) (named k l) here))
    (λ (there : bytes_eq h.name k ≡ false).
    ap heads (cond-false (bytes_eq h.name k) (h ∷ named k l) (named k l) there) ∙ rest ∙ sym (cond-false (bytes_eq h.name k) (h ∷ named k l) (named k l) there))
    (cases_Bool (bytes_eq h.name k))

-- a header of a list has a value there
has_value : (h : Header) (l : List Header) → IsIn h l → values_of h.name l ≡ [] → ⊥
has_value h [] at none = at
has_value h (x ∷ l) at none =
    ⊎_elim
    (λ (here : bytes_eq x.name h.name ≡ true).
    let some : x.value ∷ values_of h.name l ≡ [] = sym (ap (map (λ (y : Header). y.value)) (cond-true (bytes_eq x.name h.name) (x ∷ named h.name l) (named h.name l) here)) ∙ none in cc)
    (λ (there : bytes_eq x.name h.name ≡ false).
    ⊎_elim
    (λ (same : h ≡ x). true≢false (sym (bytes_eq_itself h.name) ∙ ap (λ (y : Header). bytes_eq y.name h.name) same ∙ there))
    (λ later. has_value h l later (sym (values_there h.name x l there) ∙ none))
    at)
    (cases_Bool (bytes_eq x.name h.name))

empty_of : (l : List Header) → ((q : List ℕ) → [] ≡ values_of q l) → l ≡ []
empty_of [] h = refl
empty_of (x ∷ l) h = absurd (has_value x (x ∷ l) (inl refl) (sym (h x.name)))

-- the entries, whose names ascend, have the values of the list
pub listed-in_order : (entries : Entries) (l : List Header) → IsStrictlySortedBy by_name (map (λ e. e.0) entries) → ((q : List ℕ) → kept_of (found q entries) ≡ values_of q l) → listed entries ≡ in_order l
unfolding IsStrictlySortedBy
listed-in_order [] l sorted same = sym (ap in_order (empty_of l same))
listed-in_order (e ∷ entries) l sorted same =
    let k = e.0.now in
    let higher : AllByRecursion (λ x. compared k x.0.now ≡ Less) entries = all_mapped (λ y. by_name e.0 y ≡ Less) (λ x. x.0) entries sorted.0 in
    let own : found k (e ∷ entries) ≡ Some e.1 = cond-true (is_eq (compared k k)) (Some e.1) (found k entries) (is_eq-slice_cmp k k ∙ bytes_eq_itself k) in
    let lowest : AllByRecursion (λ (h : Header). is_below h.name k ≡ false) l =
    all_in (λ (h : Header). is_below h.name k ≡ false) l (λ h at.
    ⊎_elim
    (λ (below : is_below h.name k ≡ true).
    let less = less_of (compared h.name k) below in
    let all = all_weaker (λ x. compared k x.0.now ≡ Less) (λ x. is_eq (compared h.name x.0.now) ≡ false) (λ x up. apart_smaller h.name x.0.now (nat_list_cmp_total.trans h.name k x.0.now less up)) entries higher in
    absurd (has_value h l at (sym (same h.name) ∙ ap kept_of (not_found h.name (e ∷ entries) (apart_smaller h.name k less, all)))))
    (λ (no : is_below h.name k ≡ false). no)
    (cases_Bool (is_below h.name k))) in
    let rest = listed-in_order entries (without k l) sorted.1 (λ q.
    ⊎_elim
    (λ (here : bytes_eq k q ≡ true).
    let e = bytes_same k q here in
    ap (λ n. kept_of (found n entries)) (sym e)
    ∙ ap kept_of (not_found k entries (all_weaker _ _ (λ x up. apart_smaller k x.0.now up) entries higher))
    ∙ sym (values_without_same k l)
    ∙ ap (λ n. values_of n (without k l)) e)
    (λ (there : bytes_eq k q ≡ false).
    let skipped : found q (e ∷ entries) ≡ found q entries = cond-false (is_eq (compared q k)) (Some e.1) (found q entries) (is_eq-slice_cmp q k ∙ bytes_turned k q there) in
    ap kept_of (sym skipped) ∙ same q ∙ sym (values_without_other k q l there))
    (cases_Bool (bytes_eq k q))) in
    ap (λ vs. headers_of k vs ++ listed entries) (sym (ap kept_of own) ∙ same k)
    ∙ ap (λ hs. hs ++ listed entries) (headers_named k l)
    ∙ ap (λ hs. named k l ++ hs) rest
    ∙ sym (first_name k l lowest)
