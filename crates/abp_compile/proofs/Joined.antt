-- Groups of filters, with one filter more.
use Rattle.std.proofs.Common.{◌≡◌, ℕ, suc, List, [], ◌∷◌, ◌++◌, map, filter, Bool, true, false, cond, not, ◌||◌, Option, Some, None, option_map, get_or, set, refl, sym, ap, ◌∙◌, subst, ⊎_elim, append-nil}
use Rattle.std.specs.List.{list_any, filter_map, cons_option, AllByRecursion}
use Rattle.std.proofs.lemmas.Bool.{true≢false, false_from_ne_true, not-true}
use Rattle.std.proofs.lemmas.List.{map-append}
use Rattle.compile_spec.specs.Alike.{plain_domain, alike}
use Rattle.compile_spec.specs.Compiled.{Placed, Group, alike_to, groups_of}
use Rattle.compile_laws.proofs.Lists.{true_or_false, each_passed, each_weaker, each_filtered}
use Rattle.compile_laws.proofs.Likeness.{alike_turned, alike_through}
use Rattle.abp_compile.specs.Groups.{Told, told_with, told_of, first_place}

filter_snoc : {X : Type 0} (test : X → Bool) (xs : List X) (x : X) → filter test (xs ++ x ∷ []) ≡ filter test xs ++ cond (test x) (x ∷ []) []
filter_snoc test [] x = refl
filter_snoc test (y ∷ xs) x = by (test y) (filter_snoc test xs x)
  where
    by : (b : Bool) → filter test (xs ++ x ∷ []) ≡ filter test xs ++ cond (test x) (x ∷ []) []
        → cond b (y ∷ filter test (xs ++ x ∷ [])) (filter test (xs ++ x ∷ [])) ≡ cond b (y ∷ filter test xs) (filter test xs) ++ cond (test x) (x ∷ []) []
    by true h = ap (λ l. y ∷ l) h
    by false h = h

filter_append : {X : Type 0} (test : X → Bool) (xs ys : List X) → filter test (xs ++ ys) ≡ filter test xs ++ filter test ys
filter_append test [] ys = refl
filter_append test (x ∷ xs) ys = by (test x) (filter_append test xs ys)
  where
    by : (b : Bool) → filter test (xs ++ ys) ≡ filter test xs ++ filter test ys → cond b (x ∷ filter test (xs ++ ys)) (filter test (xs ++ ys)) ≡ cond b (x ∷ filter test xs) (filter test xs) ++ filter test ys
    by true h = ap (λ l. x ∷ l) h
    by false h = h

-- ---- a group, with a filter more

abbrev joined_with : Bool → Placed → Group → Group
joined_with joins one group = cond joins (record { first = group.first; others = group.others ++ one ∷ [] }) group

-- it joins where it is alike
abbrev joined : Placed → Group → Group
joined one group = joined_with (alike_to group.first one) one group

-- else it begins a group
abbrev begun : Placed → Bool → List Group
begun one joins = cond joins [] (record { first = one; others = [] } ∷ [])

abbrev some_alike : Placed → List Group → Bool
some_alike one groups = list_any (λ group. alike_to group.first one) groups

joined_first : (b : Bool) (one : Placed) (group : Group) → (joined_with b one group).first ≡ group.first
joined_first true one group = refl
joined_first false one group = refl

filter_joined : (first one : Placed) (groups : List Group)
    → filter (λ group. not (alike_to first group.first)) (map (joined one) groups) ≡ map (joined one) (filter (λ group. not (alike_to first group.first)) groups)
filter_joined first one [] = refl
filter_joined first one (group ∷ groups) =
    ap (λ (p : Placed). cond (not (alike_to first p)) (joined one group ∷ filter (λ g. not (alike_to first g.first)) (map (joined one) groups)) (filter (λ g. not (alike_to first g.first)) (map (joined one) groups)))
    (joined_first (alike_to group.first one) one group)
    ∙ by (not (alike_to first group.first)) (filter_joined first one groups)
  where
    by : (b : Bool) → filter (λ g. not (alike_to first g.first)) (map (joined one) groups) ≡ map (joined one) (filter (λ g. not (alike_to first g.first)) groups)
        → cond b (joined one group ∷ filter (λ g. not (alike_to first g.first)) (map (joined one) groups)) (filter (λ g. not (alike_to first g.first)) (map (joined one) groups))
        ≡ map (joined one) (cond b (group ∷ filter (λ g. not (alike_to first g.first)) groups) (filter (λ g. not (alike_to first g.first)) groups))
    by true h = ap (λ l. joined one group ∷ l) h
    by false h = h

-- a group that the first takes in is alike to nothing that the first is not alike to
any_left : (first one : Placed) (groups : List Group) → alike_to first one ≡ false
    → some_alike one (filter (λ group. not (alike_to first group.first)) groups) ≡ some_alike one groups
any_left first one [] apart_so = refl
any_left first one (group ∷ groups) apart_so =
    ⊎_elim
    (λ so.
    let apart : alike_to group.first one ≡ false = false_from_ne_true (alike_to group.first one) (λ h. true≢false (sym (alike_through first.filter group.first.filter one.filter so h) ∙ apart_so)) in
    let kept = any_left first one groups apart_so in
    ap (λ b. some_alike one (cond (not b) (group ∷ filter (λ g. not (alike_to first g.first)) groups) (filter (λ g. not (alike_to first g.first)) groups))) so
    ∙ kept ∙ sym (ap (λ b. b || some_alike one groups) apart))
    (λ other.
    ap (λ b. some_alike one (cond (not b) (group ∷ filter (λ g. not (alike_to first g.first)) groups) (filter (λ g. not (alike_to first g.first)) groups))) other
    ∙ ap (λ b. alike_to group.first one || b) (any_left first one groups apart_so))
    (true_or_false (alike_to first group.first))

others_begun : (first one : Placed) (groups : List Group)
    → filter (λ group. not (alike_to first group.first)) (begun one (some_alike one groups))
    ≡ begun one (alike_to first one || some_alike one (filter (λ group. not (alike_to first group.first)) groups))
others_begun first one groups =
    ⊎_elim
    (λ so. taken so (some_alike one groups) ∙ sym (ap (λ b. begun one (b || some_alike one (filter (λ group. not (alike_to first group.first)) groups))) so))
    (λ apart_so. kept apart_so (some_alike one groups) ∙ ap (begun one) (sym (any_left first one groups apart_so)) ∙ sym (ap (λ b. begun one (b || some_alike one (filter (λ group. not (alike_to first group.first)) groups))) apart_so))
    (true_or_false (alike_to first one))
  where
    taken : alike_to first one ≡ true → (b : Bool) → filter (λ group. not (alike_to first group.first)) (begun one b) ≡ []
    taken so true = refl
    taken so false = ap (λ b. cond (not b) (record { first = one; others = [] } ∷ []) []) so

    kept : alike_to first one ≡ false → (b : Bool) → filter (λ group. not (alike_to first group.first)) (begun one b) ≡ begun one b
    kept apart_so true = refl
    kept apart_so false = ap (λ b. cond (not b) (record { first = one; others = [] } ∷ []) []) apart_so

first_joined : (first one : Placed) (rest : List Placed)
    → record { first = first; others = filter (alike_to first) (rest ++ one ∷ []) } ≡ joined one (record { first = first; others = filter (alike_to first) rest })
first_joined first one rest = ap (λ (l : List Placed). record { first = first; others = l }) (filter_snoc (alike_to first) rest one) ∙ by (alike_to first one)
  where
    by : (b : Bool) → record { first = first; others = filter (alike_to first) rest ++ cond b (one ∷ []) [] } ≡ joined_with b one (record { first = first; others = filter (alike_to first) rest })
    by true = refl
    by false = ap (λ (l : List Placed). record { first = first; others = l }) (append-nil (filter (alike_to first) rest))

groups_snoc : (all : List Placed) (one : Placed) → groups_of (all ++ one ∷ []) ≡ map (joined one) (groups_of all) ++ begun one (some_alike one (groups_of all))
groups_snoc [] one = refl
groups_snoc (first ∷ rest) one =
    let Left : Group → Bool = λ group. not (alike_to first group.first) in
    let later : filter Left (groups_of (rest ++ one ∷ [])) ≡ map (joined one) (filter Left (groups_of rest)) ++ begun one (alike_to first one || some_alike one (filter Left (groups_of rest))) =
    ap (filter Left) (groups_snoc rest one) ∙ filter_append Left (map (joined one) (groups_of rest)) (begun one (some_alike one (groups_of rest)))
    ∙ (λ i. filter_joined first one (groups_of rest) i ++ others_begun first one (groups_of rest) i) in
    λ i. first_joined first one rest i ∷ later i

-- ---- what is kept of groups

abbrev pub told_joined_with : Bool → Placed → Told → Told
told_joined_with joins one told = cond joins (record { filter = told.filter; lines = told.lines ++ one.line ∷ []; domains = told.domains ++ cons_option (plain_domain one.filter.pattern) [] }) told

abbrev pub told_joined : Placed → Told → Told
told_joined one told = told_joined_with (alike told.filter one.filter) one told

abbrev pub told_alone : Placed → Told
told_alone one = told_with one []

map_snoc : (placed : List Placed) (one : Placed) → map (λ (p : Placed). p.line) (placed ++ one ∷ []) ≡ map (λ (p : Placed). p.line) placed ++ one.line ∷ []
map_snoc placed one = map-append (λ (p : Placed). p.line) placed (one ∷ [])

domains_snoc : (placed : List Placed) (one : Placed)
    → filter_map (λ p. plain_domain p.filter.pattern) (placed ++ one ∷ []) ≡ filter_map (λ p. plain_domain p.filter.pattern) placed ++ cons_option (plain_domain one.filter.pattern) []
domains_snoc [] one = refl
domains_snoc (p ∷ placed) one = by (plain_domain p.filter.pattern) (domains_snoc placed one)
  where
    by : (o : Option (List ℕ)) → filter_map (λ q. plain_domain q.filter.pattern) (placed ++ one ∷ []) ≡ filter_map (λ q. plain_domain q.filter.pattern) placed ++ cons_option (plain_domain one.filter.pattern) []
        → cons_option o (filter_map (λ q. plain_domain q.filter.pattern) (placed ++ one ∷ [])) ≡ cons_option o (filter_map (λ q. plain_domain q.filter.pattern) placed) ++ cons_option (plain_domain one.filter.pattern) []
    by None h = h
    by (Some d) h = ap (λ l. d ∷ l) h

told_is : (one : Placed) (group : Group) → told_of (joined one group) ≡ told_joined one (told_of group)
told_is one group = by (alike_to group.first one)
  where
    by : (b : Bool) → told_of (joined_with b one group) ≡ told_joined_with b one (told_of group)
    by true = λ i. record { filter = group.first.filter; lines = map_snoc (group.first ∷ group.others) one i; domains = domains_snoc (group.first ∷ group.others) one i }
    by false = refl

abbrev pub some_told : Placed → List Told → Bool
some_told one tolds = list_any (λ told. alike told.filter one.filter) tolds

abbrev pub told_begun : Placed → Bool → List Told
told_begun one joins = cond joins [] (told_alone one ∷ [])

told_groups : (one : Placed) (groups : List Group) → map told_of (map (joined one) groups) ≡ map (told_joined one) (map told_of groups)
told_groups one [] = refl
told_groups one (group ∷ groups) = λ i. told_is one group i ∷ told_groups one groups i

any_told : (one : Placed) (groups : List Group) → some_told one (map told_of groups) ≡ some_alike one groups
any_told one [] = refl
any_told one (group ∷ groups) = ap (λ b. alike_to group.first one || b) (any_told one groups)

begun_told : (one : Placed) (b : Bool) → map told_of (begun one b) ≡ told_begun one b
begun_told one true = refl
begun_told one false = refl

pub told_snoc : (all : List Placed) (one : Placed)
    → map told_of (groups_of (all ++ one ∷ [])) ≡ map (told_joined one) (map told_of (groups_of all)) ++ told_begun one (some_told one (map told_of (groups_of all)))
told_snoc all one =
    ap (map told_of) (groups_snoc all one) ∙ map-append told_of (map (joined one) (groups_of all)) (begun one (some_alike one (groups_of all)))
    ∙ (λ i. told_groups one (groups_of all) i ++ (begun_told one (some_alike one (groups_of all)) ∙ ap (told_begun one) (sym (any_told one (groups_of all)))) i)

-- ---- apart_so two groups are alike

abbrev pub Unlike : List Told → Type 0
Unlike [] = Unit {0}
Unlike (told ∷ tolds) = AllByRecursion (λ (other : Told). alike told.filter other.filter ≡ false) tolds × Unlike tolds

abbrev UnlikeGroups : List Group → Type 0
UnlikeGroups [] = Unit {0}
UnlikeGroups (group ∷ groups) = AllByRecursion (λ (other : Group). alike_to group.first other.first ≡ false) groups × UnlikeGroups groups

unlike_kept : (b : Bool) (group : Group) (groups kept : List Group) → AllByRecursion (λ (other : Group). alike_to group.first other.first ≡ false) kept
    → UnlikeGroups kept → UnlikeGroups (cond b (group ∷ kept) kept)
unlike_kept true group groups kept apart rest = (apart, rest)
unlike_kept false group groups kept apart rest = rest

unlike_filtered : (test : Group → Bool) (groups : List Group) → UnlikeGroups groups → UnlikeGroups (filter test groups)
unlike_filtered test [] h = tt
unlike_filtered test (group ∷ groups) h =
    unlike_kept (test group) group groups (filter test groups) (each_filtered (λ (other : Group). alike_to group.first other.first ≡ false) test groups h.0) (unlike_filtered test groups h.1)

unlike_groups : (all : List Placed) → UnlikeGroups (groups_of all)
unlike_groups [] = tt
unlike_groups (first ∷ rest) = (
  each_weaker (λ (g : Group). not (alike_to first g.first) ≡ true) (λ (g : Group). alike_to first g.first ≡ false) (λ g h. not-true (alike_to first g.first) h)
      (filter (λ g. not (alike_to first g.first)) (groups_of rest)) (each_passed (λ g. not (alike_to first g.first)) (groups_of rest)),
  unlike_filtered (λ g. not (alike_to first g.first)) (groups_of rest) (unlike_groups rest),
)

each_told : (first : Group) (groups : List Group) → AllByRecursion (λ (other : Group). alike_to first.first other.first ≡ false) groups
    → AllByRecursion (λ (other : Told). alike first.first.filter other.filter ≡ false) (map told_of groups)
each_told first [] h = tt
each_told first (group ∷ groups) h = (h.0, each_told first groups h.1)

unlike_told : (groups : List Group) → UnlikeGroups groups → Unlike (map told_of groups)
unlike_told [] h = tt
unlike_told (group ∷ groups) h = (each_told group groups h.0, unlike_told groups h.1)

pub unlike : (all : List Placed) → Unlike (map told_of (groups_of all))
unlike all = unlike_told (groups_of all) (unlike_groups all)

-- ---- where the filter joins

none_joins : (one : Placed) (tolds : List Told) → AllByRecursion (λ (told : Told). alike told.filter one.filter ≡ false) tolds → map (told_joined one) tolds ≡ tolds
none_joins one [] h = refl
none_joins one (told ∷ tolds) h = λ i. ap (λ b. told_joined_with b one told) h.0 i ∷ none_joins one tolds h.1 i

-- where it is alike to one it is to none of the others
others_apart : (one : Placed) (told : Told) (tolds : List Told) → alike told.filter one.filter ≡ true → AllByRecursion (λ (other : Told). alike told.filter other.filter ≡ false) tolds
    → AllByRecursion (λ (other : Told). alike other.filter one.filter ≡ false) tolds
others_apart one told tolds so apart =
    each_weaker (λ (other : Told). alike told.filter other.filter ≡ false) (λ (other : Told). alike other.filter one.filter ≡ false)
    (λ other apart_so. false_from_ne_true (alike other.filter one.filter) (λ h.
    true≢false (sym (alike_through told.filter one.filter other.filter so (alike_turned other.filter one.filter h)) ∙ apart_so))) tolds apart

some_place : {b : Bool} (later : Option ℕ) (place : ℕ) → b ≡ false → cond b (Some 0) (option_map suc later) ≡ Some place → (next : ℕ) × (later ≡ Some next) × (place ≡ suc next)
some_place None place apart_so h = absurd (none_some (sym (ap (λ b. cond b (Some 0) None) apart_so) ∙ h))
  where
    none_some : None ≡ Some place → ⊥
    none_some e = cc
some_place (Some next) place apart_so h = (next, refl, same (sym (ap (λ b. cond b (Some 0) (Some (suc next))) apart_so) ∙ h))
  where
    same : Some (suc next) ≡ Some place → place ≡ suc next
    same e = cc

pub one_joins : (one : Placed) (tolds : List Told) → Unlike tolds → (place : ℕ) (new d : Told) → first_place (λ told. alike told.filter one.filter) tolds ≡ Some place
    → new ≡ told_joined one (get_or tolds place d) → set tolds place new ≡ map (told_joined one) tolds
one_joins one [] h place new d at is = absurd (none_some at)
  where
    none_some : None ≡ Some place → ⊥
    none_some e = cc
one_joins one (told ∷ tolds) h place new d at is =
    ⊎_elim
    (λ so.
    let zero_place : place ≡ 0 = first (sym (ap (λ b. cond b (Some 0) (option_map suc (first_place (λ (t : Told). alike t.filter one.filter) tolds))) so) ∙ at) in
    ap (λ n. set (told ∷ tolds) n new) zero_place
    ∙ (λ i. (is ∙ ap (λ n. told_joined one (get_or (told ∷ tolds) n d)) zero_place) i ∷ sym (none_joins one tolds (others_apart one told tolds so h.0)) i))
    (λ apart_so.
    let next = some_place (first_place (λ (t : Told). alike t.filter one.filter) tolds) place apart_so at in
    ap (λ n. set (told ∷ tolds) n new) next.2
    ∙ (λ i. sym (ap (λ b. told_joined_with b one told) apart_so) i ∷ one_joins one tolds h.1 next.0 new d next.1 (is ∙ ap (λ n. told_joined one (get_or (told ∷ tolds) n d)) next.2) i))
    (true_or_false (alike told.filter one.filter))
  where
    first : Some 0 ≡ Some place → place ≡ 0
    first e = cc

-- ---- both ways

rest_none : (o : Option ℕ) → option_map suc o ≡ None → o ≡ None
rest_none None e = refl
rest_none (Some n) e = cc

each_none : {X : Type 0} (test : X → Bool) (x : X) (xs : List X) (b : Bool) → test x ≡ b → cond b (Some 0) (option_map suc (first_place test xs)) ≡ None
    → (first_place test xs ≡ None → AllByRecursion (λ y. test y ≡ false) xs) → AllByRecursion (λ y. test y ≡ false) (x ∷ xs)
each_none test x xs true e n later = cc
each_none test x xs false e n later = (e, later (rest_none (first_place test xs) n))

pub no_place : {X : Type 0} (test : X → Bool) (xs : List X) → first_place test xs ≡ None → AllByRecursion (λ x. test x ≡ false) xs
no_place test [] h = tt
no_place test (x ∷ xs) h = each_none test x xs (test x) refl h (no_place test xs)

some_any : {X : Type 0} (test : X → Bool) (xs : List X) (place : ℕ) (b : Bool) (o : Option ℕ) → first_place test xs ≡ o → cond b (Some 0) (option_map suc o) ≡ Some place
    → ((k : ℕ) → first_place test xs ≡ Some k → list_any test xs ≡ true) → (b || list_any test xs) ≡ true
some_any test xs place true o e n later = refl
some_any test xs place false None e n later = cc
some_any test xs place false (Some k) e n later = later k e

a_place : {X : Type 0} (test : X → Bool) (xs : List X) (place : ℕ) → first_place test xs ≡ Some place → list_any test xs ≡ true
a_place test [] place h = cc
a_place test (x ∷ xs) place h = some_any test xs place (test x) (first_place test xs) refl h (a_place test xs)

none_any : {X : Type 0} (test : X → Bool) (xs : List X) → AllByRecursion (λ x. test x ≡ false) xs → list_any test xs ≡ false
none_any test [] h = refl
none_any test (x ∷ xs) h = ap (λ b. b || list_any test xs) h.0 ∙ none_any test xs h.1

-- a filter that is alike to none begins a group
pub told_behind : (all : List Placed) (one : Placed) (tolds : List Told) → tolds ≡ map told_of (groups_of all)
    → AllByRecursion (λ (told : Told). alike told.filter one.filter ≡ false) tolds → tolds ++ told_alone one ∷ [] ≡ map told_of (groups_of (all ++ one ∷ []))
told_behind all one tolds is none =
    let kept = none_joins one tolds none in
    let fresh = none_any (λ (told : Told). alike told.filter one.filter) tolds none in
    sym (told_snoc all one ∙ (λ i. map (told_joined one) (sym is i) ++ told_begun one (some_told one (sym is i)))
    ∙ (λ i. kept i ++ told_begun one (fresh i)))

-- and one that is alike to a group joins it
pub told_within : (all : List Placed) (one : Placed) (tolds : List Told) (place : ℕ) (new d : Told) → tolds ≡ map told_of (groups_of all)
    → first_place (λ told. alike told.filter one.filter) tolds ≡ Some place → new ≡ told_joined one (get_or tolds place d) → set tolds place new ≡ map told_of (groups_of (all ++ one ∷ []))
told_within all one tolds place new d is at joins =
    let some = a_place (λ (told : Told). alike told.filter one.filter) tolds place at in
    one_joins one tolds (subst Unlike (sym is) (unlike all)) place new d at joins
    ∙ sym (append-nil (map (told_joined one) tolds))
    ∙ sym (told_snoc all one ∙ (λ i. map (told_joined one) (sym is i) ++ told_begun one (some_told one (sym is i))) ∙ ap (λ b. map (told_joined one) tolds ++ told_begun one b) some)
