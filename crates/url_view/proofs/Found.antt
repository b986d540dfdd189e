-- What the recognizer finds in a text is plain.
use Rattle.std.proofs.Common.{◌≡◌, ℕ, suc, ◌+◌, ◌-◌, ◌<◌, ◌≤◌, Bool, true, false, ◌==◌, List, [], ◌∷◌, ◌++◌, length, get_or, take, drop, sym, refl, ap, ◌∙◌, ⊎_elim, arith, add-one, length-append, length-drop, append-nil}
use Rattle.std.specs.Prelude.{codes}
use Rattle.std.specs.List.{prefix_len, list_all}
use Rattle.std.proofs.lemmas.Bool.{cond-true, cond-false, cases_Bool}
use Rattle.std.proofs.lemmas.List.{take-append-drop, nil_from_length}
use Rattle.std.proofs.Math.Seq.{drop-cons}
use Rattle.url.proofs.InputLemmas.{All-take-prefix_len, list_all_from_All, prefix_len_at}
use Rattle.dnr_base.specs.declared.scheme.Scheme.{Scheme}
use Rattle.dnr_base.specs.Scheme.{scheme_text}
use Rattle.dnr_base.specs.View.{is_name_byte}
use Rattle.url_view.specs.Plain.{is_web, is_named, goes_on, path_len, is_query_byte, query_len, is_fragment, IsPlain, IsOrigin, IsBehind}

-- ---- the loop over a path

pub stops : (after_slash : Bool) (bytes : List ℕ) (place : ℕ) → place < length bytes
    → goes_on after_slash (get_or bytes place 0) ≡ false
    → path_len after_slash (drop place bytes) ≡ 0
unfolding path_len
stops after_slash bytes place inside bad =
    rw (drop-cons bytes place 0 inside) (cond-false _ _ _ bad)

pub steps_on : (after_slash : Bool) (bytes : List ℕ) (place : ℕ) → place < length bytes
    → goes_on after_slash (get_or bytes place 0) ≡ true
    → path_len after_slash (drop place bytes) ≡ suc (path_len (get_or bytes place 0 == 47) (drop (place + 1) bytes))
unfolding path_len
steps_on after_slash bytes place inside good =
    rw (drop-cons bytes place 0 inside, add-one) (cond-true _ _ _ good)

nothing : (after_slash : Bool) (bytes : List ℕ) → length bytes ≡ 0 → path_len after_slash bytes ≡ 0
unfolding path_len
nothing after_slash [] none = refl
nothing after_slash (b ∷ bytes) none = absurd (omega arith)

pub ends : (after_slash : Bool) (bytes : List ℕ) (place : ℕ) → length bytes ≤ place
    → path_len after_slash (drop place bytes) ≡ 0
ends after_slash bytes place beyond =
    nothing after_slash (drop place bytes) (omega (arith, length-drop place bytes))

-- ---- what was found

path_taken : (after_slash : Bool) (xs : List ℕ)
    → path_len after_slash (take (path_len after_slash xs) xs) ≡ length (take (path_len after_slash xs) xs)
unfolding path_len
path_taken after_slash [] = refl
path_taken after_slash (b ∷ xs) =
    ⊎_elim
    (λ (good : (goes_on after_slash b) ≡ true). rw (good, good) (ap suc (path_taken (b == 47) xs)))
    (λ (bad : (goes_on after_slash b) ≡ false). rw bad refl)
    (cases_Bool (goes_on after_slash b))

prefix_taken : (test : ℕ → Bool) (xs : List ℕ)
    → prefix_len test (take (prefix_len test xs) xs) ≡ length (take (prefix_len test xs) xs)
prefix_taken test xs =
    let front = take (prefix_len test xs) xs in
    ap (prefix_len test) (sym (append-nil front))
    ∙ prefix_len_at test front [] (All-take-prefix_len test xs) tt

query_taken : (xs : List ℕ) → query_len (take (query_len xs) xs) ≡ length (take (query_len xs) xs)
query_taken [] = refl
query_taken (b ∷ xs) =
    ⊎_elim
    (λ (good : (b == 63) ≡ true). rw (good, good) (ap suc (prefix_taken is_query_byte xs)))
    (λ (bad : (b == 63) ≡ false). rw bad refl)
    (cases_Bool (b == 63))

rooted_taken : (xs : List ℕ) → get_or xs 0 0 ≡ 47 → get_or (take (path_len false xs) xs) 0 0 ≡ 47
unfolding path_len
rooted_taken [] first = absurd (omega arith)
rooted_taken (b ∷ xs) first = rw first refl

in_parts : (xs : List ℕ) (n : ℕ) → xs ≡ take n xs ++ drop n xs
in_parts xs n = sym (take-append-drop n xs)

pub behind : (behind_host path behind_path query fragment : List ℕ) (path_length query_length : ℕ)
    → get_or behind_host 0 0 ≡ 47
    → path_length ≡ path_len false behind_host → path ≡ take path_length behind_host
    → behind_path ≡ drop path_length behind_host
    → query_length ≡ query_len behind_path → query ≡ take query_length behind_path
    → fragment ≡ drop query_length behind_path → is_fragment fragment ≡ true
    → IsBehind behind_host fragment
behind behind_host path behind_path query fragment path_length query_length slash path_len_is path_is behind_path_is query_len_is query_is fragment_is whole =
    let two : behind_host ≡ path ++ behind_path
    = rw (path_is, behind_path_is) (in_parts behind_host path_length) in
    let three : behind_path ≡ query ++ fragment
    = rw (query_is, fragment_is) (in_parts behind_path query_length) in
    record {
      path = path;
      query = query;
      spelled = two ∙ ap (λ l. path ++ l) three;
      rooted = rw (path_is, path_len_is) (rooted_taken behind_host slash);
      whole_path = rw (path_is, path_len_is) (path_taken false behind_host);
      whole_query = rw (query_is, query_len_is) (query_taken behind_path);
      whole_fragment = whole;
    }

-- the host
abbrev pub Named : List ℕ → List ℕ → List ℕ → Type 0
Named rest host behind_host =
    (rest ≡ host ++ behind_host) × (list_all is_name_byte host ≡ true) × (is_named host ≡ true)

pub named : (rest host behind_host : List ℕ) (name_len : ℕ)
    → name_len ≡ prefix_len is_name_byte rest → host ≡ take name_len rest
    → behind_host ≡ drop name_len rest → is_named host ≡ true → Named rest host behind_host
named rest host behind_host name_len name_is host_is behind_host_is letter = (
  rw (host_is, behind_host_is) (in_parts rest name_len),
  rw (host_is, name_is) (list_all_from_All is_name_byte _ (All-take-prefix_len is_name_byte rest)),
  letter,
)

pub found : (scheme : Scheme) (text rest host behind_host fragment : List ℕ)
    → text ≡ scheme_text scheme ++ (codes "://" ++ rest) → is_web scheme ≡ true
    → Named rest host behind_host → IsBehind behind_host fragment
    → IsPlain text (length text - length fragment) scheme (record { start = length text - length rest; end = length text - length behind_host })
found scheme text rest host behind_host fragment spelled web name tail =
    let size = ap length spelled ∙ length-append (scheme_text scheme) (codes "://" ++ rest) in
    let split_host = ap length name.0 ∙ length-append host behind_host in
    let split_path = ap length tail.spelled ∙ length-append tail.path (tail.query ++ fragment) in
    let split_query = length-append tail.query fragment in
    record {
      host = host;
      path = tail.path;
      query = tail.query;
      fragment = fragment;
      spelled = spelled
          ∙ ap (λ l. scheme_text scheme ++ (codes "://" ++ l)) (name.0 ∙ ap (λ l. host ++ l) tail.spelled);
      web = web;
      name = name.1;
      named = name.2;
      rooted = tail.rooted;
      whole_path = tail.whole_path;
      whole_query = tail.whole_query;
      whole_fragment = tail.whole_fragment;
      start = omega (arith, size);
      end = omega (arith, size, split_host);
      end_of_query = omega (arith, size, split_host, split_path, split_query);
    }

pub found_origin : (scheme : Scheme) (text rest host behind_host : List ℕ)
    → text ≡ scheme_text scheme ++ (codes "://" ++ rest) → is_web scheme ≡ true
    → Named rest host behind_host → length behind_host ≡ 0
    → IsOrigin text (length text + 1) scheme (record { start = length text - length rest; end = length text - length behind_host })
found_origin scheme text rest host behind_host spelled web name none =
    let size = ap length spelled ∙ length-append (scheme_text scheme) (codes "://" ++ rest) in
    let split_host = ap length name.0 ∙ length-append host behind_host in
    record {
      host = host;
      spelled = spelled
          ∙ ap (λ l. scheme_text scheme ++ (codes "://" ++ l)) (name.0 ∙ ap (λ l. host ++ l) (nil_from_length behind_host none) ∙ append-nil host);
      web = web;
      name = name.1;
      named = name.2;
      start = omega (arith, size);
      end = omega (arith, size, split_host);
      end_of_query = refl;
    }
