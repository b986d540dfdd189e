-- An index of rules as lists: who stands in it, and who is found.
use Rattle.std.specs.Prelude.{ℕ, List, [], ◌∷◌, ◌++◌, map, fold, Bool, true, false, Option, Some, None, option_and_then, if◌then◌else◌}
use Rattle.std.specs.List.Sorted.{IsPermutation}
use Rattle.std.specs.Str.{bytes_eq}
use Rattle.dnr_base.specs.View.{text_of, host_of}
use Rattle.dnr_base.specs.Request.{Part}
use Rattle.rule_spec.specs.Rule.{Condition, Rule}
use Rattle.index_spec.specs.Words.{token_of}
use Rattle.key_table.specs.Pairs.{Pair, near_of}
use Rattle.key_walk.specs.Met.{near_text}
use Rattle.key_walk.specs.Over.{near_host}
use Rattle.rule_index.specs.Needs.{needs_of}

-- the keys of each kind with their places; a rule that has none stands in `others`, under the empty text
pub record Index : Type 0 where
  pub others : List Pair
  pub hosts : List Pair
  pub words : List Pair
  pub initiators : List Pair

abbrev pub empty_index : Index
empty_index = record { others = []; hosts = []; words = []; initiators = [] }

-- ---- who stands in it

-- each text of a list that is not seen yet, where it stands first
abbrev pub once_by : (List ℕ → Bool) → List (List ℕ) → List (List ℕ)
once_by seen [] = []
once_by seen (text ∷ texts) =
    if seen text then once_by seen texts else text ∷ once_by (λ other. if bytes_eq text other then true else seen other) texts

abbrev pub once : List (List ℕ) → List (List ℕ)
once texts = once_by (λ text. false) texts

abbrev pub pair_for : ℕ → ℕ → List ℕ → Pair
pair_for needed place text = record { key = text; place = place; needed = needed }

-- a place under each of these texts, once, with what it needs
abbrev pub pairs_for : ℕ → List (List ℕ) → ℕ → List Pair
pairs_for needed texts place = map (pair_for needed place) (once texts)

-- the texts of a condition's keys, of each kind: it has keys of one kind alone
abbrev pub hosts_by : Option (List (List ℕ)) → List (List ℕ)
hosts_by (Some domains) = domains
hosts_by None = []

abbrev pub words_by : Option (List (List ℕ)) → Option (List ℕ) → List (List ℕ)
words_by (Some domains) token = []
words_by None (Some token) = token ∷ []
words_by None None = []

abbrev pub initiators_by : Option (List (List ℕ)) → Option (List ℕ) → Option (List (List ℕ)) → List (List ℕ)
initiators_by None None (Some domains) = domains
initiators_by hosts token initiators = []

-- the empty text, where the condition has none of these keys
abbrev pub others_by : Option (List (List ℕ)) → Option (List ℕ) → Option (List (List ℕ)) → List (List ℕ)
others_by None None None = [] ∷ []
others_by hosts token initiators = []

abbrev pub token_in : Condition → Option (List ℕ)
token_in condition = option_and_then token_of condition.url_filter

-- an index with one rule more
abbrev pub with_rule : Index → Rule → ℕ → Index
with_rule index rule place = record {
  others = index.others ++ pairs_for (needs_of rule.condition) (others_by rule.condition.hosts (token_in rule.condition) rule.condition.initiators) place;
  hosts = index.hosts ++ pairs_for (needs_of rule.condition) (hosts_by rule.condition.hosts) place;
  words = index.words ++ pairs_for (needs_of rule.condition) (words_by rule.condition.hosts (token_in rule.condition)) place;
  initiators = index.initiators ++ pairs_for (needs_of rule.condition) (initiators_by rule.condition.hosts (token_in rule.condition) rule.condition.initiators) place;
}

-- the same for a rule with its place
abbrev pub with_placed : Index → ℕ × Rule → Index
with_placed index one = with_rule index one.1 one.0

-- one index has what the other has, its keys in another order
pub record IsReordered (draft index : Index) : Type 0 where
  pub others : IsPermutation draft.others index.others
  pub hosts : IsPermutation draft.hosts index.hosts
  pub words : IsPermutation draft.words index.words
  pub initiators : IsPermutation draft.initiators index.initiators

-- the index has the keys of these rules, each rule at its place
abbrev pub IsIndexOf : List (ℕ × Rule) → Index → Type 0
IsIndexOf rules index = IsReordered (fold with_placed empty_index rules) index

-- ---- who is found

abbrev pub near_initiator : List Pair → Option ℕ → Option (List ℕ) → List ℕ
near_initiator pairs shown None = []
near_initiator pairs shown (Some host) = near_host pairs shown host

-- the places that share a key with the part and need no more than is shown, once for each pair and key
abbrev pub near : Index → Option ℕ → Part → List ℕ
near index shown part =
    near_of [] shown index.others ++ near_host index.hosts shown (host_of part.view) ++ near_text index.words shown (text_of part.view)
    ++ near_initiator index.initiators shown part.initiator

-- the places that share a key with the part
abbrev pub candidates : Index → Part → List ℕ
candidates index part = near index None part
