-- The places of rules, by their filters: where those stand that may make a rule needless.
use Rattle.std.specs.Prelude.{◌≡◌, ◌<◌, ℕ, List, [], ◌∷◌, ◌++◌, fold, bytes_eq, Bool, true, false, not, ◌==◌, ◌&&◌, nat_lt, Option, Some, None, IfSome, option_map, unwrap_or, Vec, if◌then◌else◌}
use Rattle.std.specs.List.{list_any, slice_get}
use Rattle.std.specs.Ordering.{nat_cmp}
use Rattle.std.specs.Cmp.Lexicographic.{slice_cmp}
use Rattle.std.specs.Borrow.{Bor}
use Rattle.std.specs.declared.alloc.Global.{Global}
use Rattle.std.specs.BTreeMap.{BTreeMap, get_by}
use Rattle.rule_spec.specs.Rule.{Condition, Rule}
use Rattle.prune_spec.specs.Shadows.{has_no_filter, filter_domain}
use Rattle.prune_spec.specs.Pruned.{IdsDiffer, outdoes}
use Rattle.rule_prune.specs.Digests.{digests_of}
use Rattle.rule_prune.specs.declared.filters.Filters.{Filters}
use Rattle.rule_prune.specs.declared.outdone.Search.{Search}

-- ---- the places under a text

abbrev pub Table : Type 0
Table = BTreeMap (Bor (List ℕ)) (Vec ℕ Global)

abbrev pub listed : Option (Vec ℕ Global) → List ℕ
listed places = unwrap_or (option_map (λ these. these.items) places) []

abbrev pub places_under : Table → List ℕ → List ℕ
places_under table text = listed (get_by (λ k. slice_cmp nat_cmp text k.now) table)

abbrev pub has_place : List ℕ → ℕ → Bool
has_place places place = list_any (λ other. other == place) places

-- the place was put behind those under this text, and behind no others
abbrev pub Adds : Table → Table → List ℕ → ℕ → Type 0
Adds old new text place =
    (q : List ℕ) → places_under new q ≡ (if bytes_eq text q then places_under old text ++ place ∷ [] else places_under old q)

-- and so it was where there is a text; else nothing was
abbrev pub AddsGiven : Table → Table → Option (List ℕ) → ℕ → Type 0
AddsGiven old new None place = (q : List ℕ) → places_under new q ≡ places_under old q
AddsGiven old new (Some text) place = Adds old new text place

-- ---- where a rule stands

-- the rule of this condition and place is found by each of its filters, or stands among those that have none
pub record IsListed (filters : Filters) (place : ℕ) (condition : Condition) : Type 0 where
  pub other : has_no_filter condition ≡ true → has_place filters.others.items place ≡ true
  pub pattern : IfSome condition.url_filter (λ text. has_place (places_under filters.patterns text) place ≡ true)
  pub domain : IfSome (filter_domain condition) (λ text. has_place (places_under filters.domains text) place ≡ true)
  pub expression : IfSome condition.regex_filter (λ text. has_place (places_under filters.expressions text) place ≡ true)

-- a rule was taken in at this place, and the others are found as before
pub record Takes (old new : Filters) (place : ℕ) (condition : Condition) : Type 0 where
  pub here : IsListed new place condition
  pub others : (other : ℕ) (its : Condition) → IsListed old other its → IsListed new other its
  pub digests : new.digests.items ≡ old.digests.items

-- the rules before this place are listed
abbrev pub AreListedBelow : Filters → List Rule → ℕ → Type 0
AreListedBelow filters rules end =
    (place : ℕ) (rule : Rule) → place < end → slice_get rules place ≡ Some rule → IsListed filters place rule.condition

-- every rule is listed, and has its digest
pub record AreListed (filters : Filters) (rules : List Rule) : Type 0 where
  pub places : (place : ℕ) (rule : Rule) → slice_get rules place ≡ Some rule → IsListed filters place rule.condition
  pub digests : filters.digests.items ≡ digests_of rules

-- ---- the places that are looked at for a rule

abbrev pub under_given : Table → Option (List ℕ) → List ℕ
under_given table None = []
under_given table (Some text) = places_under table text

-- those under what stands behind each dot of the text
abbrev pub behind_dots : Table → List ℕ → List ℕ
behind_dots table [] = []
behind_dots table (b ∷ rest) = if b == 46 then places_under table rest ++ behind_dots table rest else behind_dots table rest

-- those under the domain, and under each that it lies under
abbrev pub under_domain : Table → Option (List ℕ) → List ℕ
under_domain table None = []
under_domain table (Some domain) = places_under table domain ++ behind_dots table domain

abbrev pub candidates : Filters → Condition → List ℕ
candidates filters s =
    filters.others.items
    ++ under_given filters.patterns s.url_filter
    ++ under_domain filters.domains (filter_domain s)
    ++ under_given filters.expressions s.regex_filter

-- ---- the first that outdoes a rule

-- the ids of its rules differ, and they have their digests
pub record IsReady (search : Search) : Type 0 where
  pub ids : IdsDiffer search.rules.now
  pub digests : search.digests.now ≡ digests_of search.rules.now

abbrev pub one_outdoes : List Rule → Option Rule → Option Rule → Bool
one_outdoes rules None s = false
one_outdoes rules (Some k) None = false
one_outdoes rules (Some k) (Some s) = outdoes rules k s

-- the rule at the second place is not gone, and outdoes that at the first
abbrev pub keeps : List Rule → List Bool → ℕ → ℕ → Bool
keeps rules gone place other =
    not (unwrap_or (slice_get gone other) false) && one_outdoes rules (slice_get rules other) (slice_get rules place)

abbrev pub stands_before : ℕ → Option ℕ → Bool
stands_before place None = true
stands_before place (Some best) = nat_lt place best

-- the better of the best so far and of this place
abbrev pub nearer : (ℕ → Bool) → Option ℕ → ℕ → Option ℕ
nearer test best place = if stands_before place best && test place then Some place else best

abbrev pub nearest : (ℕ → Bool) → Option ℕ → List ℕ → Option ℕ
nearest test best places = fold (nearer test) best places
