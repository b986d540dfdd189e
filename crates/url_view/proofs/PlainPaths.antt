-- The path, the query and the fragment of a plain URL.
use Rattle.std.proofs.Common.{◌≡◌, ℕ, suc, Bool, true, false, not, ◌&&◌, ◌==◌, ◌⊎◌, List, [], ◌∷◌, ◌++◌, length, get_or, Option, Some, None, All, sym, refl, ap, ◌∙◌, subst, inl, inr, ⊎_elim, arith}
use Rattle.std.specs.List.{prefix_len}
use Rattle.std.specs.Prelude.{IfSome}
use Rattle.std.proofs.lemmas.Bool.{cond-true, cond-false, cases_Bool, true≢false, and_parts, cases_eq, ne_eqb}
use Rattle.std.proofs.lemmas.Bool.Decides.{nat_tests}
use Rattle.std.proofs.lemmas.List.Elements.{All-nil, All-cons, All-head, All-weaker}
use Rattle.percent_encoding.specs.Percent.{IsKept}
use Rattle.url.specs.declared.sets.TheConstants.{PATH, SPECIAL_QUERY, FRAGMENT}
use Rattle.url.specs.declared.scheme.SchemeType.TheVariants.{SpecialNotFile}
use Rattle.url.specs.Scheme.{is_slash}
use Rattle.url.specs.Path.{dot_len, dot_count, IsSegment, IsSegmentList, join_segments}
use Rattle.url.proofs.InputLemmas.{Passes, All_from_list_all}
use Rattle.url.proofs.SetLemmas.{kept_from_passes}
use Rattle.url_view.specs.Plain.{is_path_byte, is_dot_byte, path_len, is_query_byte, query_len, is_fragment_byte, is_fragment}

path_byte_kept : (b : ℕ) → is_path_byte b ≡ true → IsKept PATH b
path_byte_kept b passes =
    kept_from_passes is_path_byte PATH refl b (grind (arith, nat_tests)) passes

path_byte_whole : (b : ℕ) → is_path_byte b ≡ true → (b == 47) ≡ false
    → is_slash SpecialNotFile b ≡ false
path_byte_whole b passes other = grind (arith, nat_tests)

-- a segment that begins with neither `.` nor `%` is no dot segment
no_dots : (b : ℕ) (bytes : List ℕ) → is_dot_byte b ≡ false → dot_count (b ∷ bytes) ≡ 0
unfolding dot_count
no_dots b bytes none = let zero : dot_len (b ∷ bytes) ≡ 0 = grind (arith, nat_tests) in rw zero

-- what stands up to the next slash, and the segments behind it
record Splits (after_slash : Bool) (bytes : List ℕ) : Type 0 where
  first : List ℕ
  others : List (List ℕ)
  joined : bytes ≡ first ++ join_segments others
  escaped : All (IsKept PATH) first
  whole : All (λ b. is_slash SpecialNotFile b ≡ false) first
  resolved : after_slash ≡ true → dot_count first ≡ 0
  each : All (IsSegment SpecialNotFile) others

nothing_follows : (after_slash : Bool) → Splits after_slash []
unfolding dot_count
nothing_follows after_slash = record {
  first = [];
  others = [];
  joined = refl;
  escaped = All-nil (IsKept PATH);
  whole = All-nil (λ b. is_slash SpecialNotFile b ≡ false);
  resolved = λ _. refl;
  each = All-nil (IsSegment SpecialNotFile);
}

slash_follows : (after_slash : Bool) (b : ℕ) (bytes : List ℕ) → b ≡ 47 → Splits true bytes
    → Splits after_slash (b ∷ bytes)
unfolding dot_count
slash_follows after_slash b bytes slash rest = record {
  first = [];
  others = rest.first ∷ rest.others;
  joined = (λ i. slash i ∷ rest.joined i);
  escaped = All-nil (IsKept PATH);
  whole = All-nil (λ x. is_slash SpecialNotFile x ≡ false);
  resolved = λ _. refl;
  each = All-cons (IsSegment SpecialNotFile) rest.first rest.others (record { escaped = rest.escaped; whole = rest.whole; resolved = rest.resolved refl }) rest.each;
}

byte_follows : (after_slash : Bool) (b : ℕ) (bytes : List ℕ) → is_path_byte b ≡ true
    → (b == 47) ≡ false → not (after_slash && is_dot_byte b) ≡ true → Splits false bytes
    → Splits after_slash (b ∷ bytes)
byte_follows after_slash b bytes passes other dots rest = record {
  first = b ∷ rest.first;
  others = rest.others;
  joined = ap (λ l. b ∷ l) rest.joined;
  escaped = All-cons (IsKept PATH) b rest.first (path_byte_kept b passes) rest.escaped;
  whole = All-cons (λ x. is_slash SpecialNotFile x ≡ false) b rest.first (path_byte_whole b passes other) rest.whole;
  resolved = λ after. no_dots b rest.first (grind (arith, nat_tests));
  each = rest.each;
}

splits : (after_slash : Bool) (bytes : List ℕ) → path_len after_slash bytes ≡ length bytes
    → Splits after_slash bytes
unfolding path_len
splits after_slash [] whole = nothing_follows after_slash
splits after_slash (b ∷ bytes) whole =
    ⊎_elim
    (λ good.
    let rest : path_len (b == 47) bytes ≡ length bytes = let e
    = sym (cond-true _ (suc (path_len (b == 47) bytes)) 0 good)
    ∙ whole in omega arith in
    let both = and_parts _ _ good in
    ⊎_elim
    (λ slash. slash_follows after_slash b bytes slash (subst (λ t. Splits t bytes) (rw slash refl) (splits (b == 47) bytes rest)))
    (λ other. byte_follows after_slash b bytes both.0 (ne_eqb b 47 other) both.1 (subst (λ t. Splits t bytes) (ne_eqb b 47 other) (splits (b == 47) bytes rest)))
    (cases_eq b 47))
    (λ bad. absurd (let e = sym (cond-false _ (suc (path_len (b == 47) bytes)) 0 bad) ∙ whole in omega arith))
    (cases_Bool (is_path_byte b && not (after_slash && is_dot_byte b)))

-- behind its first slash
below_root : (path : List ℕ) (s : Splits false path) → get_or path 0 0 ≡ 47 → s.first ≡ []
below_root path s slash = first_empty s.first s.joined s.whole
  where
    first_empty : (first : List ℕ) → path ≡ first ++ join_segments s.others → All (λ b. is_slash SpecialNotFile b ≡ false) first → first ≡ []
    first_empty [] joined whole = refl
    first_empty (b ∷ first) joined whole =
        let same : b ≡ 47 = sym (ap (λ l. get_or l 0 0) joined) ∙ slash in
        absurd (true≢false (rw same at (All-head (λ x. is_slash SpecialNotFile x ≡ false) b first whole)))

pub is_segment_list : (path : List ℕ) → path_len false path ≡ length path → get_or path 0 0 ≡ 47
    → IsSegmentList SpecialNotFile path
is_segment_list path whole slash =
    let s = splits false path whole in
    record {
      segments = s.others;
      joined = s.joined ∙ ap (λ f. f ++ join_segments s.others) (below_root path s slash);
      each = s.each;
    }

-- ---- the query and the fragment, without their marks

abbrev pub without_mark : List ℕ → Option (List ℕ)
without_mark [] = None
without_mark (b ∷ bytes) = Some bytes

whole_prefix : (test : ℕ → Bool) (xs : List ℕ) → prefix_len test xs ≡ length xs
    → All (Passes test) xs
whole_prefix test [] whole = All-nil (Passes test)
whole_prefix test (x ∷ xs) whole =
    ⊎_elim
    (λ good. All-cons (Passes test) x xs good (whole_prefix test xs (let e = whole in grind (arith, nat_tests))))
    (λ bad. absurd (grind (arith, nat_tests)))
    (cases_Bool (test x))

pub query_kept : (query : List ℕ) → query_len query ≡ length query
    → IfSome (without_mark query) (All (IsKept SPECIAL_QUERY))
query_kept [] whole = tt
query_kept (b ∷ bytes) whole =
    All-weaker (Passes is_query_byte) (IsKept SPECIAL_QUERY) (λ x passes. kept_from_passes is_query_byte SPECIAL_QUERY refl x (grind (arith, nat_tests)) passes) bytes
    (whole_prefix is_query_byte bytes (grind (arith, nat_tests)))

pub query_marked : (query : List ℕ) → query_len query ≡ length query
    → (query ≡ []) ⊎ (get_or query 0 0 ≡ 63)
query_marked [] whole = inl refl
query_marked (b ∷ bytes) whole = inr (grind (arith, nat_tests))

pub fragment_kept : (fragment : List ℕ) → is_fragment fragment ≡ true
    → IfSome (without_mark fragment) (All (IsKept FRAGMENT))
fragment_kept [] whole = tt
fragment_kept (b ∷ bytes) whole =
    All-weaker (Passes is_fragment_byte) (IsKept FRAGMENT) (λ x passes. kept_from_passes is_fragment_byte FRAGMENT refl x (grind (arith, nat_tests)) passes) bytes
    (All_from_list_all is_fragment_byte bytes (and_parts _ _ whole).1)

pub fragment_marked : (fragment : List ℕ) → is_fragment fragment ≡ true
    → (fragment ≡ []) ⊎ (get_or fragment 0 0 ≡ 35)
fragment_marked [] whole = inl refl
fragment_marked (b ∷ bytes) whole = inr (grind (arith, nat_tests))
