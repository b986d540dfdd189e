-- Queries that grow piece by piece.
use Rattle.std.proofs.Common.{◌≡◌, ℕ, ◌+◌, ◌<◌, Bool, true, false, not, cond, ◌&&◌, nat_le, List, [], ◌∷◌, ◌++◌, length, map, take, get_or, filter, slice_get, count_by, Option, sym, refl, ap, ◌∙◌, append_assoc, append-nil, arith, zero-add}
use Rattle.std.specs.Option.{option_map_or}
use Rattle.std.specs.List.{join_with_byte}
use Rattle.std.specs.Str.{bytes_eq}
use Rattle.std.proofs.lemmas.List.{map-append}
use Rattle.std.proofs.lemmas.List.Sums.{sum_by-append, length-filter}
use Rattle.std.proofs.lemmas.Bool.Decides.{nat_tests}
use Rattle.form_urlencoded.specs.Form.{is_nonempty}
use Rattle.dnr_base.specs.declared.query_pair.QueryPair.{QueryPair}
use Rattle.dnr_base.specs.declared.query_transform.QueryTransform.{QueryTransform}
use Rattle.dnr_spec.specs.Transform.{query_of, replaced, all_replaced, appended, pieces_with, pairs_with, piece_of, pieces_of, is_kept, key_of, changed_query}
use Rattle.redirect_transform.specs.declared.piece.Piece.{Piece}
use Rattle.redirect_transform.specs.Piece.{texts_of}
use Rattle.redirect_transform.specs.Written.{with_piece, with_pieces, appended_by}
use Rattle.redirect_transform.proofs.Steps.{take_next}

pub with_pieces-append : (query : List ℕ) (xs ys : List (List ℕ)) → with_pieces query (xs ++ ys) ≡ with_pieces (with_pieces query xs) ys
with_pieces-append query [] ys = refl
with_pieces-append query (x ∷ xs) ys = with_pieces-append (with_piece query x) xs ys

-- ---- the joined form

join_more : (ys : List (List ℕ)) (y x : List ℕ) → join_with_byte 38 ((y ∷ ys) ++ x ∷ []) ≡ join_with_byte 38 (y ∷ ys) ++ (38 ∷ x)
join_more [] y x = refl
join_more (z ∷ ys) y x = ap (λ v. y ++ (38 ∷ v)) (join_more ys z x) ∙ sym (append_assoc y (38 ∷ join_with_byte 38 (z ∷ ys)) (38 ∷ x))

some_bytes : (b : ℕ) (rest : List ℕ) → is_nonempty (b ∷ rest) ≡ true
some_bytes b rest = grind (arith, nat_tests)

with_piece-query_of : (xs : List (List ℕ)) (x : List ℕ) → with_piece (query_of xs) x ≡ query_of (xs ++ x ∷ [])
with_piece-query_of [] x = refl
with_piece-query_of (y ∷ ys) x =
    ap (λ b. query_of (y ∷ ys) ++ cond b (38 ∷ []) (63 ∷ []) ++ x) (some_bytes 63 (join_with_byte 38 (y ∷ ys)))
    ∙ append_assoc (query_of (y ∷ ys)) (38 ∷ []) x ∙ sym (ap (λ v. 63 ∷ v) (join_more ys y x))

with_pieces-query_of : (front rest : List (List ℕ)) → with_pieces (query_of front) rest ≡ query_of (front ++ rest)
with_pieces-query_of front [] = ap query_of (sym (append-nil front))
with_pieces-query_of front (x ∷ rest) =
    ap (λ query. with_pieces query rest) (with_piece-query_of front x) ∙ with_pieces-query_of (front ++ x ∷ []) rest
    ∙ ap query_of (append_assoc front (x ∷ []) rest)

pub with_pieces-nothing : (xs : List (List ℕ)) → with_pieces [] xs ≡ query_of xs
with_pieces-nothing xs = with_pieces-query_of [] xs

-- ---- one more piece, one more pair

pub all_replaced-append : (pairs : List QueryPair) (before xs : List (List ℕ)) (x : List ℕ) → all_replaced pairs before (xs ++ x ∷ []) ≡ all_replaced pairs before xs ++ replaced pairs (before ++ xs) x ∷ []
all_replaced-append pairs before [] x = ap (λ l. replaced pairs l x ∷ []) (sym (append-nil before))
all_replaced-append pairs before (y ∷ ys) x =
    ap (λ l. replaced pairs before y ∷ l) (all_replaced-append pairs (before ++ y ∷ []) ys x)
    ∙ ap (λ l. replaced pairs before y ∷ (all_replaced pairs (before ++ y ∷ []) ys ++ replaced pairs l x ∷ [])) (append_assoc before (y ∷ []) ys)

-- a pair is appended, where a key has so many pieces
abbrev pub is_appended : (List ℕ → ℕ) → List QueryPair → QueryPair → Bool
is_appended count before pair = nat_le (count pair.key) (length (pairs_with pair.key before)) && not pair.replace_only

cond_append : (b : Bool) (x : List ℕ) (xs ys : List (List ℕ)) → cond b (x ∷ (xs ++ ys)) (xs ++ ys) ≡ cond b (x ∷ xs) xs ++ ys
cond_append true x xs ys = refl
cond_append false x xs ys = refl

pub appended_by-append : (count : List ℕ → ℕ) (before xs : List QueryPair) (x : QueryPair) → appended_by count before (xs ++ x ∷ []) ≡ appended_by count before xs ++ cond (is_appended count (before ++ xs) x) (piece_of x ∷ []) []
appended_by-append count before [] x = ap (λ l. cond (is_appended count l x) (piece_of x ∷ []) []) (sym (append-nil before))
appended_by-append count before (y ∷ ys) x =
    ap (λ l. cond (is_appended count before y) (piece_of y ∷ l) l) (appended_by-append count (before ++ y ∷ []) ys x)
    ∙ cond_append (is_appended count before y) (piece_of y) (appended_by count (before ++ y ∷ []) ys) (cond (is_appended count ((before ++ y ∷ []) ++ ys) x) (piece_of x ∷ []) [])
    ∙ ap (λ l. appended_by count before (y ∷ ys) ++ cond (is_appended count l x) (piece_of x ∷ []) []) (append_assoc before (y ∷ []) ys)

-- the counts of these pieces say which pairs are appended
pub appended_by-counts : (count : List ℕ → ℕ) (pieces : List (List ℕ)) → ((key : List ℕ) → count key ≡ pieces_with key pieces) → (before pairs : List QueryPair) → appended_by count before pairs ≡ appended pieces before pairs
appended_by-counts count pieces same before [] = refl
appended_by-counts count pieces same before (pair ∷ pairs) =
    ap (λ l. cond (is_appended count before pair) (piece_of pair ∷ l) l) (appended_by-counts count pieces same (before ++ pair ∷ []) pairs)
    ∙ ap (λ n. cond (nat_le n (length (pairs_with pair.key before)) && not pair.replace_only) (piece_of pair ∷ appended pieces (before ++ pair ∷ []) pairs) (appended pieces (before ++ pair ∷ []) pairs)) (same pair.key)

-- ---- the whole query

pub whole_query : (count : List ℕ → ℕ) (pieces : List (List ℕ)) (pairs : List QueryPair) → ((key : List ℕ) → count key ≡ pieces_with key pieces) → with_pieces (with_pieces [] (all_replaced pairs [] pieces)) (appended_by count [] pairs) ≡ query_of (all_replaced pairs [] pieces ++ appended pieces [] pairs)
whole_query count pieces pairs same =
    sym (with_pieces-append [] (all_replaced pairs [] pieces) (appended_by count [] pairs))
    ∙ with_pieces-nothing (all_replaced pairs [] pieces ++ appended_by count [] pairs)
    ∙ ap (λ l. query_of (all_replaced pairs [] pieces ++ l)) (appended_by-counts count pieces same [] pairs)

pub changed : (changes : QueryTransform) (query : List ℕ) (removed kept : List (List ℕ)) (pairs : List QueryPair) (count : List ℕ → ℕ) (first middle text : List ℕ) → removed ≡ changes.remove → pairs ≡ changes.add → kept ≡ filter (is_kept removed) (pieces_of query) → first ≡ [] → middle ≡ with_pieces first (all_replaced pairs [] kept) → text ≡ with_pieces middle (appended_by count [] pairs) → ((key : List ℕ) → count key ≡ pieces_with key kept) → text ≡ changed_query changes query
changed changes query removed kept pairs count first middle text r p k f m t same =
    t ∙ ap (λ q. with_pieces q (appended_by count [] pairs)) (m ∙ ap (λ q. with_pieces q (all_replaced pairs [] kept)) f)
    ∙ whole_query count kept pairs same
    ∙ ap (λ ps. query_of (all_replaced ps [] kept ++ appended kept [] ps)) p
    ∙ ap (λ ks. query_of (all_replaced changes.add [] ks ++ appended ks [] changes.add)) (k ∙ ap (λ rs. filter (is_kept rs) (pieces_of query)) r)

-- ---- the steps of the loops

-- one more pair, which is written or not
pub append_next : (count : List ℕ → ℕ) (pairs : List QueryPair) (i : ℕ) (pair : QueryPair) (first query new : List ℕ) (b : Bool) → i < length pairs → pair ≡ get_or pairs i pair → query ≡ with_pieces first (appended_by count [] (take i pairs)) → is_appended count (take i pairs) pair ≡ b → new ≡ cond b (with_piece query (piece_of pair)) query → new ≡ with_pieces first (appended_by count [] (take (i + 1) pairs))
append_next count pairs i pair first query new b within is before test grown =
    let front = appended_by count [] (take i pairs) in
    grown ∙ one_more b ∙ ap (λ q. with_pieces q (cond b (piece_of pair ∷ []) [])) before
    ∙ sym (with_pieces-append first front (cond b (piece_of pair ∷ []) []))
    ∙ ap (λ d. with_pieces first (front ++ cond d (piece_of pair ∷ []) [])) (sym test)
    ∙ ap (with_pieces first) (sym (appended_by-append count [] (take i pairs) pair))
    ∙ ap (λ l. with_pieces first (appended_by count [] l)) (sym (take_next pairs i pair within is))
  where
    one_more : (d : Bool) → cond d (with_piece query (piece_of pair)) query ≡ with_pieces query (cond d (piece_of pair ∷ []) [])
    one_more true = refl
    one_more false = refl

texts_next : (pieces : List Piece) (i : ℕ) (piece : Piece) → i < length pieces → piece ≡ get_or pieces i piece → texts_of (take (i + 1) pieces) ≡ texts_of (take i pieces) ++ piece.text.now ∷ []
texts_next pieces i piece within is =
    ap texts_of (take_next pieces i piece within is) ∙ map-append (λ (p : Piece). p.text.now) (take i pieces) (piece ∷ [])

-- one more piece, which is written as it is or replaced
pub replace_next : (pairs : List QueryPair) (pieces : List Piece) (i : ℕ) (piece : Piece) (pair : Option QueryPair) (first query new : List ℕ) → i < length pieces → piece ≡ get_or pieces i piece → query ≡ with_pieces first (all_replaced pairs [] (texts_of (take i pieces))) → pair ≡ slice_get (pairs_with (key_of piece.text.now) pairs) (pieces_with (key_of piece.text.now) (texts_of (take i pieces))) → new ≡ with_piece query (option_map_or piece_of pair piece.text.now) → new ≡ with_pieces first (all_replaced pairs [] (texts_of (take (i + 1) pieces)))
replace_next pairs pieces i piece pair first query new within is before found grown =
    let front = texts_of (take i pieces) in
    let text = piece.text.now in
    grown ∙ ap (λ o. with_piece query (option_map_or piece_of o text)) found
    ∙ ap (λ q. with_piece q (replaced pairs front text)) before
    ∙ sym (with_pieces-append first (all_replaced pairs [] front) (replaced pairs front text ∷ []))
    ∙ ap (with_pieces first) (sym (all_replaced-append pairs [] front text))
    ∙ ap (λ l. with_pieces first (all_replaced pairs [] l)) (sym (texts_next pieces i piece within is))

-- one more piece is counted at its key
pub pieces_with-next : (pieces : List Piece) (i : ℕ) (piece : Piece) (key : List ℕ) → i < length pieces → piece ≡ get_or pieces i piece → pieces_with key (texts_of (take (i + 1) pieces)) ≡ pieces_with key (texts_of (take i pieces)) + cond (bytes_eq key (key_of piece.text.now)) 1 0
pieces_with-next pieces i piece key within is =
    ap (pieces_with key) (texts_next pieces i piece within is)
    ∙ sum_by-append (λ text. cond (bytes_eq key (key_of text)) 1 0) (texts_of (take i pieces)) (piece.text.now ∷ [])
    ∙ ap (λ n. pieces_with key (texts_of (take i pieces)) + n) (zero-add (cond (bytes_eq key (key_of piece.text.now)) 1 0))

-- what the test of a pair says, where the pairs before it are counted
pub told : (count : List ℕ → ℕ) (pairs : List QueryPair) (pair : QueryPair) (n : ℕ) (d b : Bool) → d ≡ (nat_le (count pair.key) n && not pair.replace_only) → n ≡ count_by (λ other. bytes_eq pair.key other.key) pairs → d ≡ b → is_appended count pairs pair ≡ b
told count pairs pair n d b tested counted is =
    ap (λ m. nat_le (count pair.key) m && not pair.replace_only) (length-filter (λ other. bytes_eq pair.key other.key) pairs ∙ sym counted)
    ∙ sym tested ∙ is
