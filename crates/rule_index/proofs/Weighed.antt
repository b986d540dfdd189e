-- What the places weigh that a table gives for several keys.
use Rattle.std.proofs.Common.{◌≡◌, ℕ, ◌+◌, ◌<◌, ◌≤◌, List, [], ◌∷◌, ◌++◌, length, Bool, true, false, not, cond, ◌&&◌, ◌||◌, ◌==◌, Option, Some, None, inl, inr, refl, sym, ap, ◌∙◌, arith}
use Rattle.std.specs.List.{sum_by, list_any, cons_option}
use Rattle.std.specs.Str.{bytes_eq}
use Rattle.std.proofs.lemmas.Bool.{cases_Bool, false≢true}
use Rattle.std.proofs.lemmas.List.Folds.{list_any-append}
use Rattle.std.proofs.lemmas.List.Sums.{sum_by-append, sum_by-cons}
use Rattle.std.proofs.lemmas.Slice.Eq.{bytes_eq-Decides}
use Rattle.dnr_spec.specs.Domains.{lower_case}
use Rattle.dnr_spec.specs.Hosts.{is_ip_host}
use Rattle.index_spec.specs.Words.{has_word}
use Rattle.index_spec.specs.Keys.{rests_of, domains_over}
use Rattle.key_table.specs.Pairs.{Pair, shows, near_of}
use Rattle.key_walk.specs.Met.{places_behind}
use Rattle.key_walk.specs.Over.{near_each}

-- ---- sums

pub sum_same : {X : Type 0} (f g : X → ℕ) (xs : List X) → ((x : X) → f x ≡ g x) → sum_by f xs ≡ sum_by g xs
sum_same {X = X} f g xs each = ap (λ (h : X → ℕ). sum_by h xs) (λ i x. each x i)

pub sum_both : {X : Type 0} (f g h : X → ℕ) (xs : List X) → ((x : X) → f x + g x ≡ h x) → sum_by f xs + sum_by g xs ≡ sum_by h xs
sum_both f g h [] each = refl
sum_both f g h (x ∷ xs) each =
    let a = sum_by-cons f x xs in
    let b = sum_by-cons g x xs in
    let c = sum_by-cons h x xs in
    let d = sum_both f g h xs each in
    let e = each x in
    omega arith

pub sum_none : {X : Type 0} (f : X → ℕ) (xs : List X) → ((x : X) → f x ≡ 0) → sum_by f xs ≡ 0
sum_none f [] each = refl
sum_none f (x ∷ xs) each = let a = sum_by-cons f x xs in let b = sum_none f xs each in let c = each x in omega arith

-- ---- a key

-- what a pair weighs, where its key passes and no more is needed than is shown
abbrev pub weight_by : (ℕ → ℕ) → Option ℕ → (List ℕ → Bool) → Pair → ℕ
weight_by weight shown test pair = cond (shows pair.needed shown && test pair.key) (weight pair.place) 0

cons_weighs : (weight : ℕ → ℕ) (here : Bool) (place : ℕ) (places : List ℕ) → sum_by weight (cons_option (cond here (Some place) None) places) ≡ cond here (weight place) 0 + sum_by weight places
cons_weighs weight true place places = sum_by-cons weight place places
cons_weighs weight false place places = omega arith

pub near_weighs : (weight : ℕ → ℕ) (shown : Option ℕ) (key : List ℕ) (pairs : List Pair) → sum_by weight (near_of key shown pairs) ≡ sum_by (weight_by weight shown (λ own. bytes_eq own key)) pairs
near_weighs weight shown key [] = refl
near_weighs weight shown key (pair ∷ pairs) =
    let a = cons_weighs weight (shows pair.needed shown && bytes_eq pair.key key) pair.place (near_of key shown pairs) in
    let b = sum_by-cons (weight_by weight shown (λ own. bytes_eq own key)) pair pairs in
    let c = near_weighs weight shown key pairs in
    omega arith

pub bytes_same : (text : List ℕ) → bytes_eq text text ≡ true
bytes_same text = (bytes_eq-Decides text text).1 refl

pub bytes_turned : (text other : List ℕ) → bytes_eq text other ≡ bytes_eq other text
bytes_turned text other =
    elim (cases_Bool (bytes_eq text other)) [
      | inl same ↦ same ∙ sym ((bytes_eq-Decides other text).1 (sym ((bytes_eq-Decides text other).0 same)))
      | inr differ ↦ elim (cases_Bool (bytes_eq other text)) [
        | inl same ↦ absurd (false≢true (sym differ ∙ (bytes_eq-Decides text other).1 (sym ((bytes_eq-Decides other text).0 same))))
        | inr also ↦ differ ∙ sym also
      ]
    ]

-- ---- keys that differ

abbrev pub has_text : List (List ℕ) → List ℕ → Bool
has_text texts key = list_any (λ text. bytes_eq text key) texts

abbrev pub AreDistinct : List (List ℕ) → Type 0
AreDistinct [] = Unit {0}
AreDistinct (text ∷ texts) = (has_text texts text ≡ false) × AreDistinct texts

one_key : (s same turned later : Bool) (weight : ℕ) → same ≡ turned → (same ≡ true → later ≡ false) → cond (s && same) weight 0 + cond (s && later) weight 0 ≡ cond (s && (turned || later)) weight 0
one_key false same turned later weight is other = refl
one_key true true turned later weight is other = rw (sym is, other refl) (omega arith)
one_key true false turned later weight is other = rw (sym is) (omega arith)

pub each_weighs : (weight : ℕ → ℕ) (shown : Option ℕ) (pairs : List Pair) (texts : List (List ℕ)) → AreDistinct texts → sum_by weight (near_each pairs shown texts) ≡ sum_by (weight_by weight shown (has_text texts)) pairs
each_weighs weight shown pairs [] distinct = sym (sum_none (weight_by weight shown (has_text [])) pairs (λ pair. none (shows pair.needed shown) (weight pair.place)))
  where
    none : (s : Bool) (weight : ℕ) → cond (s && false) weight 0 ≡ 0
    none true weight = refl
    none false weight = refl
each_weighs weight shown pairs (text ∷ texts) distinct =
    let a = sum_by-append weight (near_of text shown pairs) (near_each pairs shown texts) in
    let b = near_weighs weight shown text pairs in
    let c = each_weighs weight shown pairs texts distinct.1 in
    let d =
    sum_both (weight_by weight shown (λ own. bytes_eq own text)) (weight_by weight shown (has_text texts)) (weight_by weight shown (has_text (text ∷ texts))) pairs
    (λ pair. one_key (shows pair.needed shown) (bytes_eq pair.key text) (bytes_eq text pair.key) (has_text texts pair.key) (weight pair.place) (bytes_turned pair.key text)
    (λ same. ap (has_text texts) ((bytes_eq-Decides pair.key text).0 same) ∙ distinct.0)) in
    a ∙ ap (λ n. n + sum_by weight (near_each pairs shown texts)) b ∙ ap (λ n. sum_by (weight_by weight shown (λ own. bytes_eq own text)) pairs + n) c ∙ d

-- ---- a host and its rests

shorter : (text other : List ℕ) → length text < length other → bytes_eq text other ≡ false
shorter text other less =
    elim (cases_Bool (bytes_eq text other)) [
      | inl same ↦ absurd (let e : length text ≡ length other = ap length ((bytes_eq-Decides text other).0 same) in omega arith)
      | inr differ ↦ differ
    ]

no_rest : (host text : List ℕ) → length host ≤ length text → has_text (rests_of host) text ≡ false
no_rest [] text less = refl
no_rest (b ∷ rest) text less =
    list_any-append (λ other. bytes_eq other text) (cond (b == 46) (rest ∷ []) []) (rests_of rest) ∙ rw (first (b == 46), no_rest rest text (omega arith)) refl
  where
    first : (dot : Bool) → has_text (cond dot (rest ∷ []) []) text ≡ false
    first true = let no : bytes_eq rest text ≡ false = shorter rest text (omega arith) in rw no refl
    first false = refl

rests_differ : (host : List ℕ) → AreDistinct (rests_of host)
rests_differ [] = tt
rests_differ (b ∷ rest) = first (b == 46) (rests_differ rest)
  where
    first : (dot : Bool) → AreDistinct (rests_of rest) → AreDistinct (cond dot (rest ∷ []) [] ++ rests_of rest)
    first true others = (no_rest rest rest (omega arith), others)
    first false others = others

pub domains_differ : (host : List ℕ) → AreDistinct (domains_over host)
domains_differ host = (first (is_ip_host host), rest (is_ip_host host))
  where
    first : (ip : Bool) → has_text (cond ip [] (rests_of host)) host ≡ false
    first true = refl
    first false = no_rest host host (omega arith)

    rest : (ip : Bool) → AreDistinct (cond ip [] (rests_of host))
    rest true = tt
    rest false = rests_differ host

-- ---- words, each where it is met first

abbrev pub has_lower : List (List ℕ) → List ℕ → Bool
has_lower words key = list_any (λ word. bytes_eq (lower_case word) key) words

word_step : (s m same b b' later : Bool) (weight : ℕ) → b' ≡ (b || same) → (same ≡ true → m ≡ b) → cond (s && (not m && same)) weight 0 + cond (s && (not b' && later)) weight 0 ≡ cond (s && (not b && (same || later))) weight 0
word_step false m same b b' later weight is other = refl
word_step true true false true b' later weight is other = rw is refl
word_step true true false false b' later weight is other = rw is (omega arith)
word_step true false false true b' later weight is other = rw is refl
word_step true false false false b' later weight is other = rw is (omega arith)
word_step true m true true b' later weight is other = rw (is, other refl) refl
word_step true m true false b' later weight is other = rw (is, other refl) (omega arith)

unless_met : (weight : ℕ → ℕ) (shown : Option ℕ) (pairs : List Pair) (key : List ℕ) (m : Bool) → sum_by weight (cond m [] (near_of key shown pairs)) ≡ sum_by (weight_by weight shown (λ own. not m && bytes_eq own key)) pairs
unless_met weight shown pairs key true = sym (sum_none (weight_by weight shown (λ own. false)) pairs (λ pair. none (shows pair.needed shown) (weight pair.place)))
  where
    none : (s : Bool) (weight : ℕ) → cond (s && false) weight 0 ≡ 0
    none true weight = refl
    none false weight = refl
unless_met weight shown pairs key false = near_weighs weight shown key pairs

pub words_weigh : (weight : ℕ → ℕ) (shown : Option ℕ) (pairs : List Pair) (before words : List (List ℕ)) → sum_by weight (places_behind pairs shown before words) ≡ sum_by (weight_by weight shown (λ key. not (has_lower before key) && has_lower words key)) pairs
words_weigh weight shown pairs before [] = sym (sum_none (weight_by weight shown (λ key. not (has_lower before key) && false)) pairs (λ pair. none (shows pair.needed shown) (not (has_lower before pair.key)) (weight pair.place)))
  where
    none : (s n : Bool) (weight : ℕ) → cond (s && (n && false)) weight 0 ≡ 0
    none true true weight = refl
    none true false weight = refl
    none false n weight = refl
words_weigh weight shown pairs before (word ∷ words) =
    let key = lower_case word in
    let m = has_word before word in
    let first : List ℕ → Bool = λ own. not m && bytes_eq own key in
    let later : List ℕ → Bool = λ own. not (has_lower (before ++ word ∷ []) own) && has_lower words own in
    let both : List ℕ → Bool = λ own. not (has_lower before own) && has_lower (word ∷ words) own in
    let a = sum_by-append weight (cond m [] (near_of key shown pairs)) (places_behind pairs shown (before ++ word ∷ []) words) in
    let b = unless_met weight shown pairs key m in
    let c = words_weigh weight shown pairs (before ++ word ∷ []) words in
    let d = sum_both (weight_by weight shown first) (weight_by weight shown later) (weight_by weight shown both) pairs (λ pair. step pair) in
    a ∙ ap (λ n. n + sum_by weight (places_behind pairs shown (before ++ word ∷ []) words)) b ∙ ap (λ n. sum_by (weight_by weight shown first) pairs + n) c ∙ d
  where
    or_false : (b : Bool) → (b || false) ≡ b
    or_false true = refl
    or_false false = refl

    met : (own : List ℕ) → has_lower (before ++ word ∷ []) own ≡ (has_lower before own || bytes_eq (lower_case word) own)
    met own = list_any-append (λ other. bytes_eq (lower_case other) own) before (word ∷ []) ∙ ap (λ b. has_lower before own || b) (or_false (bytes_eq (lower_case word) own))

    step : (pair : Pair) → weight_by weight shown (λ own. not (has_word before word) && bytes_eq own (lower_case word)) pair + weight_by weight shown (λ own. not (has_lower (before ++ word ∷ []) own) && has_lower words own) pair
        ≡ weight_by weight shown (λ own. not (has_lower before own) && has_lower (word ∷ words) own) pair
    step pair =
        ap (λ same. cond (shows pair.needed shown && (not (has_word before word) && same)) (weight pair.place) 0 + weight_by weight shown (λ own. not (has_lower (before ++ word ∷ []) own) && has_lower words own) pair) (bytes_turned pair.key (lower_case word))
        ∙ word_step (shows pair.needed shown) (has_word before word) (bytes_eq (lower_case word) pair.key) (has_lower before pair.key) (has_lower (before ++ word ∷ []) pair.key) (has_lower words pair.key) (weight pair.place) (met pair.key)
        (λ same. ap (has_lower before) ((bytes_eq-Decides (lower_case word) pair.key).0 same))
