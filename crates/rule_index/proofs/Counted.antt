-- The places that are found weigh as much as the keys that rules share with the part.
use Rattle.std.proofs.Common.{◌≡◌, ℕ, ◌+◌, List, [], ◌∷◌, ◌++◌, fold, map, filter, Bool, true, false, cond, ◌&&◌, ◌||◌, Option, Some, None, refl, sym, ap, ◌∙◌, arith}
use Rattle.std.specs.List.{sum_by, list_any}
use Rattle.std.specs.Str.{bytes_eq}
use Rattle.std.proofs.lemmas.List.Folds.{list_any-append}
use Rattle.std.proofs.lemmas.List.Sorted.{sum_by-IsPermutation}
use Rattle.std.proofs.lemmas.List.Sums.{sum_by-append, sum_by-cons}
use Rattle.std.proofs.lemmas.Slice.Eq.{bytes_eq-Decides}
use Rattle.dnr_base.specs.View.{text_of, host_of}
use Rattle.dnr_base.specs.Request.{Part}
use Rattle.dnr_spec.specs.Domains.{lower_case}
use Rattle.rule_spec.specs.Rule.{Condition, Rule}
use Rattle.index_spec.specs.Words.{words_of}
use Rattle.index_spec.specs.declared.key.Key.{Key}
use Rattle.index_spec.specs.declared.key.Key.TheVariants.{Host, Token, Initiator, All}
use Rattle.index_spec.specs.Keys.{same_key, has_key, keys_by_initiators, keys_by_token, keys_by_hosts, domains_over, domains_over_some, keys_of_part}
use Rattle.index_spec.specs.Pairs.{once_behind, shared}
use Rattle.index_spec.specs.Pairs as spec
use Rattle.key_table.specs.Pairs.{Pair, shows, near_of}
use Rattle.key_walk.specs.Met.{near_text}
use Rattle.key_walk.specs.Over.{near_host}
use Rattle.rule_index.specs.Index.{Index, empty_index, once, once_by, pair_for, pairs_for, hosts_by, words_by, initiators_by, others_by, token_in, with_rule, with_placed, IsReordered, near_initiator, near}
use Rattle.rule_index.specs.Needs.{needs_of}
use Rattle.rule_index.specs.Found.{CandidatesAreCounted, NearAreCounted}
use Rattle.rule_index.proofs.Weighed.{weight_by, has_text, has_lower, near_weighs, each_weighs, domains_differ, words_weigh}

-- ---- keys of a part

pub any_map : {X Y : Type 0} (f : X → Y) (test : Y → Bool) (xs : List X) → list_any test (map f xs) ≡ list_any (λ x. test (f x)) xs
any_map f test [] = refl
any_map f test (x ∷ xs) = ap (λ b. test (f x) || b) (any_map f test xs)

pub none_map : {X Y : Type 0} (f : X → Y) (test : Y → Bool) (xs : List X) → ((x : X) → test (f x) ≡ false) → list_any test (map f xs) ≡ false
none_map f test [] other = refl
none_map f test (x ∷ xs) other = rw (other x) (none_map f test xs other)

abbrev pub hosts_in : Part → List Key
hosts_in part = map Host (domains_over (host_of part.view))

abbrev pub tokens_in : Part → List Key
tokens_in part = map Token (map lower_case (words_of (text_of part.view)))

abbrev pub initiators_in : Part → List Key
initiators_in part = map Initiator (domains_over_some part.initiator)

any_in_part : (test : Key → Bool) (part : Part) → list_any test (keys_of_part part) ≡ (((list_any test (hosts_in part) || list_any test (tokens_in part)) || list_any test (initiators_in part)) || list_any test (All ∷ []))
any_in_part test part =
    list_any-append test ((hosts_in part ++ tokens_in part) ++ initiators_in part) (All ∷ [])
    ∙ ap (λ b. b || list_any test (All ∷ [])) (list_any-append test (hosts_in part ++ tokens_in part) (initiators_in part)
    ∙ ap (λ b. b || list_any test (initiators_in part)) (list_any-append test (hosts_in part) (tokens_in part)))

first_of : (h t i : Bool) → t ≡ false → i ≡ false → (((h || t) || i) || false) ≡ h
first_of true t i no_t no_i = refl
first_of false t i no_t no_i = rw (no_t, no_i) refl

second_of : (h t i : Bool) → h ≡ false → i ≡ false → (((h || t) || i) || false) ≡ t
second_of h true i no_h no_i = rw no_h refl
second_of h false i no_h no_i = rw (no_h, no_i) refl

third_of : (h t i : Bool) → h ≡ false → t ≡ false → (((h || t) || i) || false) ≡ i
third_of h t true no_h no_t = rw (no_h, no_t) refl
third_of h t false no_h no_t = rw (no_h, no_t) refl

host_is : (part : Part) (key : List ℕ) → has_key (keys_of_part part) (Host key) ≡ has_text (domains_over (host_of part.view)) key
host_is part key =
    let test : Key → Bool = λ other. same_key other (Host key) in
    any_in_part test part
    ∙ first_of (list_any test (hosts_in part)) (list_any test (tokens_in part)) (list_any test (initiators_in part))
    (none_map Token test (map lower_case (words_of (text_of part.view))) (λ x. refl)) (none_map Initiator test (domains_over_some part.initiator) (λ x. refl))
    ∙ any_map Host test (domains_over (host_of part.view))

token_is : (part : Part) (key : List ℕ) → has_key (keys_of_part part) (Token key) ≡ has_lower (words_of (text_of part.view)) key
token_is part key =
    let test : Key → Bool = λ other. same_key other (Token key) in
    any_in_part test part
    ∙ second_of (list_any test (hosts_in part)) (list_any test (tokens_in part)) (list_any test (initiators_in part))
    (none_map Host test (domains_over (host_of part.view)) (λ x. refl)) (none_map Initiator test (domains_over_some part.initiator) (λ x. refl))
    ∙ any_map Token test (map lower_case (words_of (text_of part.view))) ∙ any_map lower_case (λ word. test (Token word)) (words_of (text_of part.view))

initiator_is : (part : Part) (key : List ℕ) → has_key (keys_of_part part) (Initiator key) ≡ has_text (domains_over_some part.initiator) key
initiator_is part key =
    let test : Key → Bool = λ other. same_key other (Initiator key) in
    any_in_part test part
    ∙ third_of (list_any test (hosts_in part)) (list_any test (tokens_in part)) (list_any test (initiators_in part))
    (none_map Host test (domains_over (host_of part.view)) (λ x. refl)) (none_map Token test (map lower_case (words_of (text_of part.view))) (λ x. refl))
    ∙ any_map Initiator test (domains_over_some part.initiator)

any_or_true : (b : Bool) → (b || true) ≡ true
any_or_true true = refl
any_or_true false = refl

all_is : (part : Part) → has_key (keys_of_part part) All ≡ true
all_is part = let test : Key → Bool = λ other. same_key other All in any_in_part test part ∙ any_or_true ((list_any test (hosts_in part) || list_any test (tokens_in part)) || list_any test (initiators_in part))

-- ---- texts, each once, as keys

-- keys of one kind
abbrev pub IsKind : (List ℕ → Key) → Type 0
IsKind key = (text other : List ℕ) → same_key (key text) (key other) ≡ bytes_eq text other

seen_more : (before seen same : Bool) → before ≡ seen → (before || (same || false)) ≡ cond same true seen
seen_more before seen true is = any_or_true before
seen_more true seen false is = is
seen_more false seen false is = is

still_seen : (before seen same : Bool) → before ≡ seen → (same ≡ true → seen ≡ true) → (before || (same || false)) ≡ seen
still_seen before seen true is was = any_or_true before ∙ sym (was refl)
still_seen true seen false is was = is
still_seen false seen false is was = is

pub once_as : (key : List ℕ → Key) → IsKind key → (before : List Key) (seen : List ℕ → Bool) (texts : List (List ℕ)) → ((text : List ℕ) → has_key before (key text) ≡ seen text) → once_behind before (map key texts) ≡ map key (once_by seen texts)
once_as key kind before seen [] is = refl
once_as key kind before seen (text ∷ texts) is =
    by_seen (λ more later. once_as key kind (before ++ key text ∷ []) more texts later) (seen text) refl
  where
    grown : (other : List ℕ) → has_key (before ++ key text ∷ []) (key other) ≡ (has_key before (key other) || (bytes_eq text other || false))
    grown other = list_any-append (λ own. same_key own (key other)) before (key text ∷ []) ∙ ap (λ b. has_key before (key other) || (b || false)) (kind text other)

    by_seen : ((more : List ℕ → Bool) → ((other : List ℕ) → has_key (before ++ key text ∷ []) (key other) ≡ more other) → once_behind (before ++ key text ∷ []) (map key texts) ≡ map key (once_by more texts)) → (was : Bool) → seen text ≡ was → (cond (has_key before (key text)) [] (key text ∷ []) ++ once_behind (before ++ key text ∷ []) (map key texts)) ≡ map key (cond (seen text) (once_by seen texts) (text ∷ once_by (λ other. cond (bytes_eq text other) true (seen other)) texts))
    by_seen rest true was =
        let met : has_key before (key text) ≡ true = is text ∙ was in
        rw (met, was) (rest seen
        (λ other. grown other ∙ still_seen (has_key before (key other)) (seen other) (bytes_eq text other) (is other) (λ same. ap seen (sym ((bytes_eq-Decides text other).0 same)) ∙ was)))
    by_seen rest false was =
        let met : has_key before (key text) ≡ false = is text ∙ was in
        rw (met, was) (ap (λ keys. key text ∷ keys) (rest (λ other. cond (bytes_eq text other) true (seen other))
        (λ other. grown other ∙ seen_more (has_key before (key other)) (seen other) (bytes_eq text other) (is other))))

-- ---- what the pairs of a rule weigh

-- a place weighs nothing where it needs more than is shown
abbrev pub weight_near : (ℕ → ℕ) → Option ℕ → ℕ → ℕ → ℕ
weight_near weight shown needed place = cond (shows needed shown) (weight place) 0

nested : (s t : Bool) (load : ℕ) → cond (s && t) load 0 ≡ cond t (cond s load 0) 0
nested true t load = refl
nested false true load = refl
nested false false load = refl

pair_weighs : (weight : ℕ → ℕ) (shown : Option ℕ) (test : List ℕ → Bool) (needed place : ℕ) (text : List ℕ) (texts : List (List ℕ))
    → sum_by (weight_by weight shown test) (map (pair_for needed place) (text ∷ texts)) ≡ cond (test text) (weight_near weight shown needed place) 0 + sum_by (weight_by weight shown test) (map (pair_for needed place) texts)
pair_weighs weight shown test needed place text texts =
    sum_by-cons (weight_by weight shown test) (pair_for needed place text) (map (pair_for needed place) texts)
    ∙ ap (λ n. n + sum_by (weight_by weight shown test) (map (pair_for needed place) texts)) (nested (shows needed shown) (test text) (weight place))

key_weighs : (load : ℕ) (passes : Bool) (key : Key) (keys : List Key) → sum_by (λ key. load) (cond passes (key ∷ keys) keys) ≡ cond passes load 0 + sum_by (λ (key : Key). load) keys
key_weighs load true key keys = sum_by-cons (λ key. load) key keys
key_weighs load false key keys = omega arith

pub kind_weighs : (weight : ℕ → ℕ) (shown : Option ℕ) (needed place : ℕ) (key : List ℕ → Key) (has : Key → Bool) (test : List ℕ → Bool) → ((text : List ℕ) → has (key text) ≡ test text) → (texts : List (List ℕ))
    → sum_by (weight_by weight shown test) (map (pair_for needed place) texts) ≡ sum_by (λ (key : Key). weight_near weight shown needed place) (filter has (map key texts))
kind_weighs weight shown needed place key has test is [] = refl
kind_weighs weight shown needed place key has test is (text ∷ texts) =
    let load : ℕ = weight_near weight shown needed place in
    let a = pair_weighs weight shown test needed place text texts in
    let b = kind_weighs weight shown needed place key has test is texts in
    let c = key_weighs load (has (key text)) (key text) (filter has (map key texts)) in
    let d : cond (has (key text)) load 0 ≡ cond (test text) load 0 = ap (λ b. cond b load 0) (is text) in
    omega arith

-- ---- what an index weighs

module _ (weight : ℕ → ℕ) (shown : Option ℕ) (part : Part) where
  abbrev host_test : List ℕ → Bool
  host_test = has_text (domains_over (host_of part.view))

  abbrev word_test : List ℕ → Bool
  word_test = has_lower (words_of (text_of part.view))

  abbrev initiator_test : List ℕ → Bool
  initiator_test = has_text (domains_over_some part.initiator)

  abbrev other_test : List ℕ → Bool
  other_test key = bytes_eq key []

  abbrev loads : (List ℕ → Bool) → List Pair → ℕ
  loads test pairs = sum_by (weight_by weight shown test) pairs

  abbrev pub load : Index → ℕ
  load index = ((loads other_test index.others + loads host_test index.hosts) + loads word_test index.words) + loads initiator_test index.initiators

  initiators_weigh : (pairs : List Pair) (initiator : Option (List ℕ)) → sum_by weight (near_initiator pairs shown initiator) ≡ loads (has_text (domains_over_some initiator)) pairs
  initiators_weigh pairs None = each_weighs weight shown pairs [] tt
  initiators_weigh pairs (Some host) = each_weighs weight shown pairs (domains_over host) (domains_differ host)

  near_weigh : (index : Index) → sum_by weight (near index shown part) ≡ load index
  near_weigh index =
      let O : List ℕ = near_of [] shown index.others in
      let H : List ℕ = near_host index.hosts shown (host_of part.view) in
      let W : List ℕ = near_text index.words shown (text_of part.view) in
      let I : List ℕ = near_initiator index.initiators shown part.initiator in
      let a = sum_by-append weight ((O ++ H) ++ W) I in
      let b = sum_by-append weight (O ++ H) W in
      let c = sum_by-append weight O H in
      let o = near_weighs weight shown [] index.others in
      let h = each_weighs weight shown index.hosts (domains_over (host_of part.view)) (domains_differ (host_of part.view)) in
      let w = words_weigh weight shown index.words [] (words_of (text_of part.view)) in
      let i = initiators_weigh index.initiators part.initiator in
      omega arith

  reordered_weighs : (draft index : Index) → IsReordered draft index → load index ≡ load draft
  reordered_weighs draft index is =
      let o = sum_by-IsPermutation (weight_by weight shown other_test) draft.others index.others is.others in
      let h = sum_by-IsPermutation (weight_by weight shown host_test) draft.hosts index.hosts is.hosts in
      let w = sum_by-IsPermutation (weight_by weight shown word_test) draft.words index.words is.words in
      let i = sum_by-IsPermutation (weight_by weight shown initiator_test) draft.initiators index.initiators is.initiators in
      omega arith

  -- what a rule with these fields adds
  abbrev adds : Option (List (List ℕ)) → Option (List ℕ) → Option (List (List ℕ)) → ℕ → ℕ → ℕ
  adds hosts token initiators needed place =
      ((loads other_test (pairs_for needed (others_by hosts token initiators) place) + loads host_test (pairs_for needed (hosts_by hosts) place)) + loads word_test (pairs_for needed (words_by hosts token) place))
      + loads initiator_test (pairs_for needed (initiators_by hosts token initiators) place)

  abbrev shares : List Key → ℕ → ℕ → ℕ
  shares keys needed place = sum_by (λ (key : Key). weight_near weight shown needed place) (filter (has_key (keys_of_part part)) (spec.once keys))

  some_weigh : (key : List ℕ → Key) → IsKind key → (test : List ℕ → Bool) → ((text : List ℕ) → has_key (keys_of_part part) (key text) ≡ test text) → (domains : List (List ℕ)) (needed place : ℕ) → loads test (pairs_for needed domains place) ≡ shares (map key domains) needed place
  some_weigh key kind test is domains needed place =
      kind_weighs weight shown needed place key (has_key (keys_of_part part)) test is (once domains)
      ∙ ap (λ keys. sum_by (λ (key : Key). weight_near weight shown needed place) (filter (has_key (keys_of_part part)) keys)) (sym (once_as key kind [] (λ text. false) domains (λ text. refl)))

  all_weighs : (needed place : ℕ) → loads other_test (pairs_for needed ([] ∷ []) place) ≡ shares (All ∷ []) needed place
  all_weighs needed place =
      let a = pair_weighs weight shown other_test needed place [] [] in
      let b : shares (All ∷ []) needed place ≡ 0 + weight_near weight shown needed place = rw (all_is part) refl in
      omega arith

  by_initiators : (initiators : Option (List (List ℕ))) (needed place : ℕ) → adds None None initiators needed place ≡ shares (keys_by_initiators initiators) needed place
  by_initiators None needed place = let a = all_weighs needed place in omega arith
  by_initiators (Some domains) needed place = let a = some_weigh Initiator (λ text other. refl) initiator_test (initiator_is part) domains needed place in omega arith

  by_token : (condition : Condition) (token : Option (List ℕ)) (needed place : ℕ) → adds None token condition.initiators needed place ≡ shares (keys_by_token token condition) needed place
  by_token condition None needed place = by_initiators condition.initiators needed place
  by_token condition (Some token) needed place = let a = some_weigh Token (λ text other. refl) word_test (token_is part) (token ∷ []) needed place in omega arith

  by_hosts : (condition : Condition) (hosts : Option (List (List ℕ))) (needed place : ℕ) → adds hosts (token_in condition) condition.initiators needed place ≡ shares (keys_by_hosts hosts condition) needed place
  by_hosts condition None needed place = by_token condition (token_in condition) needed place
  by_hosts condition (Some domains) needed place = let a = some_weigh Host (λ text other. refl) host_test (host_is part) domains needed place in omega arith

  abbrev own_weight : ℕ × Rule → ℕ
  own_weight one = sum_by (λ key. weight_near weight shown (needs_of one.1.condition) one.0) (shared one.1 part)

  rule_weighs : (index : Index) (rule : Rule) (place : ℕ) → load (with_rule index rule place) ≡ load index + own_weight (place, rule)
  rule_weighs index rule place =
      let hosts = rule.condition.hosts in
      let token = token_in rule.condition in
      let initiators = rule.condition.initiators in
      let needed : ℕ = needs_of rule.condition in
      let o = sum_by-append (weight_by weight shown other_test) index.others (pairs_for needed (others_by hosts token initiators) place) in
      let h = sum_by-append (weight_by weight shown host_test) index.hosts (pairs_for needed (hosts_by hosts) place) in
      let w = sum_by-append (weight_by weight shown word_test) index.words (pairs_for needed (words_by hosts token) place) in
      let i = sum_by-append (weight_by weight shown initiator_test) index.initiators (pairs_for needed (initiators_by hosts token initiators) place) in
      let own = by_hosts rule.condition hosts needed place in
      omega arith

  rules_weigh : (index : Index) (rules : List (ℕ × Rule)) → load (fold with_placed index rules) ≡ load index + sum_by own_weight rules
  rules_weigh index [] = omega arith
  rules_weigh index (one ∷ rules) =
      let a = rules_weigh (with_placed index one) rules in
      let b = rule_weighs index one.1 one.0 in
      let c = sum_by-cons own_weight one rules in
      omega arith

pub near_are_counted : NearAreCounted
near_are_counted weight shown rules index part is =
    let a = near_weigh weight shown part index in
    let b = reordered_weighs weight shown part (fold with_placed empty_index rules) index is in
    let c = rules_weigh weight shown part empty_index rules in
    omega arith

pub candidates_are_counted : CandidatesAreCounted
candidates_are_counted weight rules index part is = near_are_counted weight None rules index part is
