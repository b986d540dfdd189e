-- What a rule that holds needs is shown.
use Rattle.std.proofs.Common.{◌≡◌, ℕ, suc, ◌+◌, List, [], ◌∷◌, ◌++◌, map, filter, Bool, true, false, not, cond, ◌||◌, ◌==◌, All, Contains, Option, Some, None, inl, inr, refl, sym, ap, ◌∙◌, subst, arith, eqb-true}
use Rattle.std.specs.List.{list_any}
use Rattle.std.specs.Str.{bytes_eq}
use Rattle.std.proofs.lemmas.Bool.{cases_Bool, or_cases, false≢true}
use Rattle.std.proofs.lemmas.Bool.Decides.{nat_tests}
use Rattle.std.proofs.lemmas.List.Elements.{All-nil, All-cons, All-head, All-tail, All-weaker, All-append, Contains-append_right}
use Rattle.std.proofs.lemmas.Slice.Eq.{bytes_eq-Decides}
use Rattle.dnr_base.specs.declared.kind.Kind.{Kind}
use Rattle.dnr_base.specs.Kind.{all_kinds, has_kind, place_of, same_kind}
use Rattle.dnr_base.specs.View.{View, IsView, text_of}
use Rattle.dnr_base.specs.Request.{Part}
use Rattle.dnr_spec.specs.Domains.{lower_case}
use Rattle.dnr_spec.specs.Suffixes.{SuffixRule}
use Rattle.dnr_spec.specs.UrlFilter.{filter_of}
use Rattle.rule_spec.specs.Rule.{Rule}
use Rattle.rule_spec.specs.Holds.{fits_url, holds}
use Rattle.index_spec.specs.Words.{has_word, words_of, words_of_filter}
use Rattle.index_laws.proofs.Anchors.{firm_words_are_shown}
use Rattle.index_laws.proofs.Sharing.{holds_fit, host_cut}
use Rattle.key_table.specs.Hash.{bucket_of, tag_of}
use Rattle.rule_index.specs.Needs.{low_half, places_of_tag, places_of_word, places_of_words, places_of_others, words_needed, needs_of, shown_by, NeedsAreShown}
use Rattle.rule_index.proofs.Bits.{both_within}

contains_more : (own place : ℕ) (places : List ℕ) → Contains places place → Contains (own ∷ places) place
contains_more own place places (k, within, is) = (suc k, omega arith, is)

-- ---- words

own_places : (tag : ℕ) (others : List ℕ) → All (Contains (places_of_tag tag ++ others)) (places_of_tag tag)
own_places tag others =
    All-cons (Contains (places_of_tag tag ++ others)) (bucket_of 112 tag) (bucket_of 112 (low_half tag) ∷ []) (0, omega arith, refl)
    (All-cons (Contains (places_of_tag tag ++ others)) (bucket_of 112 (low_half tag)) [] (1, omega arith, refl) (All-nil (Contains (places_of_tag tag ++ others))))

word_places : (words : List (List ℕ)) (word : List ℕ) → has_word words word ≡ true → All (Contains (places_of_words words)) (places_of_word word)
word_places [] word has = absurd (false≢true has)
word_places (other ∷ words) word has =
    elim (or_cases (bytes_eq (lower_case other) (lower_case word)) (has_word words word) has) [
      | inl same ↦
          subst (λ text. All (Contains (places_of_words (other ∷ words))) (places_of_tag (tag_of text)))
          ((bytes_eq-Decides (lower_case other) (lower_case word)).0 same)
          (own_places (tag_of (lower_case other)) (places_of_words words))
      | inr later ↦ All-weaker (Contains (places_of_words words)) (Contains (places_of_words (other ∷ words)))
          (Contains-append_right (places_of_word other) (places_of_words words)) (places_of_word word) (word_places words word later)
    ]

all_places : (words needed : List (List ℕ)) → All (λ word. has_word words word ≡ true) needed → All (Contains (places_of_words words)) (places_of_words needed)
all_places words [] all = All-nil (Contains (places_of_words words))
all_places words (word ∷ needed) all =
    All-append (Contains (places_of_words words)) (places_of_word word) (places_of_words needed)
    (word_places words word (All-head (λ word. has_word words word ≡ true) word needed all))
    (all_places words needed (All-tail (λ word. has_word words word ≡ true) word needed all))

words_shown : (filter : Option (List ℕ)) (fold : Bool) (view : View) → IsView view → fits_url filter fold view ≡ true → All (Contains (places_of_words (words_of (text_of view)))) (places_of_words (words_needed filter))
words_shown None fold view is_view fit = All-nil (Contains (places_of_words (words_of (text_of view))))
words_shown (Some pattern) fold view is_view fit =
    all_places (words_of (text_of view)) (words_of_filter (filter_of pattern)) (firm_words_are_shown pattern (text_of view) view.host fold (host_cut view is_view) fit)

-- ---- types

step : (needed shown : Bool) (place : ℕ) (less more : List ℕ) → (needed ≡ true → shown ≡ true) → All (Contains more) less → All (Contains (cond shown (place ∷ more) more)) (cond needed (place ∷ less) less)
step true true place less more is all =
    All-cons (Contains (place ∷ more)) place less (0, omega arith, refl) (All-weaker (Contains more) (Contains (place ∷ more)) (λ other there. contains_more place other more there) less all)
step true false place less more is all = absurd (false≢true (is refl))
step false true place less more is all = All-weaker (Contains more) (Contains (place ∷ more)) (λ other there. contains_more place other more there) less all
step false false place less more is all = all

mapped : (some : Bool) (kind : Kind) (kinds : List Kind) → map (λ kind. 112 + place_of kind) (cond some (kind ∷ kinds) kinds) ≡ cond some ((112 + place_of kind) ∷ map (λ kind. 112 + place_of kind) kinds) (map (λ kind. 112 + place_of kind) kinds)
mapped true kind kinds = refl
mapped false kind kinds = refl

turned : (a b : ℕ) → (a == b) ≡ (b == a)
turned a b = grind (arith, nat_tests)

-- those that are not in the set of one type
pub others_than : (kinds none : List Kind) (kind : Kind) (all : List Kind) → none ≡ [] → ((other : Kind) → has_kind kinds other ≡ (same_kind kind other || has_kind none other)) → places_of_others kinds all ≡ places_of_others (kind ∷ []) all
others_than kinds none kind all empty members = ap (λ (test : Kind → Bool). map (λ kind. 112 + place_of kind) (filter test all)) (λ i other. same other i)
  where
    same : (other : Kind) → not (has_kind kinds other) ≡ not (has_kind (kind ∷ []) other)
    same other =
        ap not (members other ∙ ap (λ list. same_kind kind other || has_kind list other) empty ∙ ap (λ b. b || false) (turned (place_of kind) (place_of other)))

-- a type on which the rule does not hold is not that of the part
is_other : (kinds : List Kind) (kind own : Kind) → has_kind kinds kind ≡ true → not (has_kind kinds own) ≡ true → not (has_kind (kind ∷ []) own) ≡ true
is_other kinds kind own has absent =
    elim (cases_Bool (same_kind own kind)) [
      | inl same ↦
          let one : place_of own ≡ place_of kind = eqb-true (place_of own) (place_of kind) same in
          let also : has_kind kinds own ≡ true = ap (λ n. list_any (λ other. n == place_of other) kinds) one ∙ has in
          absurd (false≢true (sym (ap not also) ∙ absent))
      | inr differs ↦ rw differs refl
    ]

kinds_shown : (kinds : List Kind) (kind : Kind) (all : List Kind) → has_kind kinds kind ≡ true → All (Contains (places_of_others (kind ∷ []) all)) (places_of_others kinds all)
kinds_shown kinds kind [] has = All-nil (Contains [])
kinds_shown kinds kind (own ∷ all) has =
    let needed : Bool = not (has_kind kinds own) in
    let shown : Bool = not (has_kind (kind ∷ []) own) in
    let a = mapped needed own (filter (λ kind. not (has_kind kinds kind)) all) in
    let b = mapped shown own (filter (λ other. not (has_kind (kind ∷ []) other)) all) in
    subst (λ less. All (Contains (places_of_others (kind ∷ []) (own ∷ all))) less) (sym a)
    (subst (λ more. All (Contains more) (cond needed ((112 + place_of own) ∷ places_of_others kinds all) (places_of_others kinds all))) (sym b)
    (step needed shown (112 + place_of own) (places_of_others kinds all) (places_of_others (kind ∷ []) all) (is_other kinds kind own has) (kinds_shown kinds kind all has)))

holds_kind : (suffixes : List SuffixRule) (rule : Rule) (part : Part) → holds suffixes rule part ≡ true → has_kind rule.condition.kinds part.kind ≡ true
holds_kind suffixes rule part has =
    elim (cases_Bool (has_kind rule.condition.kinds part.kind)) [
      | inl so ↦ so
      | inr not_so ↦ absurd (false≢true (simp not_so at has))
    ]

pub needs_are_shown : NeedsAreShown
unfolding needs_of shown_by
needs_are_shown suffixes rule part is_view has =
    both_within (places_of_words (words_needed rule.condition.url_filter)) (places_of_others rule.condition.kinds all_kinds)
    (places_of_words (words_of (text_of part.view))) (places_of_others (part.kind ∷ []) all_kinds)
    (words_shown rule.condition.url_filter (not rule.condition.case_sensitive) part.view is_view (holds_fit suffixes rule part has))
    (kinds_shown rule.condition.kinds part.kind all_kinds (holds_kind suffixes rule part has))
