-- Where the host stands in a serialization.
use Rattle.std.proofs.Common.{◌≡◌, ℕ, suc, ◌+◌, ◌-◌, ◌<◌, ◌≤◌, ◌⊎◌, Bool, true, false, cond, not, ◌&&◌, ◌||◌, ◌==◌, List, [], ◌∷◌, ◌++◌, length, get_or, drop, Option, Some, None, All, sym, refl, ap, ◌∙◌, subst, inl, inr, ⊎_elim, append_assoc, append-nil, arith, length-append}
use Rattle.std.specs.Prelude.{codes, nat_eq, option_map, option_and_then}
use Rattle.std.specs.List.{starts_with}
use Rattle.std.proofs.lemmas.Bool.{cases_Bool, cases_lt, cond_both, eq-eqb, and_parts, or_left, or_right}
use Rattle.std.proofs.lemmas.Bool.Decides.{nat_tests}
use Rattle.std.proofs.lemmas.List.{get_or_at, get_or_append_left, get_or-append_right}
use Rattle.std.proofs.lemmas.List.Elements.{All-nil, All-cons}
use Rattle.url.specs.Input.{split_once, rsplit_once, rsplit_step}
use Rattle.url.specs.Parser.{host_len}
use Rattle.url.proofs.InputLemmas.{IsNot, split_once_at}
use Rattle.dnr_base.specs.declared.span.Span.{Span}
use Rattle.dnr_base.specs.View.{fragment_place, begins_host, ends_host}
use Rattle.dnr_spec.specs.UrlView.{without_fragment, scheme_part, body_part, authority_in, host_and_port, host_at, host_span}

-- ---- what is cut at a byte

-- the byte and what follows it, if the byte is there
abbrev pub cut_off : ℕ → Option (List ℕ) → List ℕ
cut_off byte None = []
cut_off byte (Some rest) = byte ∷ rest

-- A list is what stands before the first such byte, and the byte with the rest.
record IsCut (byte : ℕ) (whole front : List ℕ) (rest : Option (List ℕ)) : Type 0 where
  split : whole ≡ front ++ cut_off byte rest
  none : All (IsNot byte) front

cut_here : (byte b : ℕ) (whole : List ℕ) → (b == byte) ≡ true → IsCut byte (b ∷ whole) [] (Some whole)
cut_here byte b whole is = record { split = let same : b ≡ byte = grind (arith, nat_tests) in ap (λ x. x ∷ whole) same; none = All-nil (IsNot byte) }

cut_later : (byte b : ℕ) (whole front : List ℕ) (rest : Option (List ℕ)) → (b == byte) ≡ false → IsCut byte whole front rest → IsCut byte (b ∷ whole) (b ∷ front) rest
cut_later byte b whole front rest other cut = record {
  split = ap (λ l. b ∷ l) cut.split;
  none = All-cons (IsNot byte) b front (λ same. grind (arith, nat_tests)) cut.none;
}

is_cut : (byte : ℕ) (whole : List ℕ) → IsCut byte whole (split_once byte whole).0 (split_once byte whole).1
unfolding split_once
is_cut byte [] = record { split = refl; none = All-nil (IsNot byte) }
is_cut byte (b ∷ whole) =
    let later = split_once byte whole in
    cond_both (b == byte) ([], Some whole) (b ∷ later.0, later.1) (λ (r : List ℕ × Option (List ℕ)). IsCut byte (b ∷ whole) r.0 r.1) (cut_here byte b whole)
    (λ other. cut_later byte b whole later.0 later.1 other (is_cut byte whole))

-- the front up to the last such byte, and the byte
abbrev front_of : ℕ → Option (List ℕ) → List ℕ
front_of byte None = []
front_of byte (Some front) = front ++ byte ∷ []

cut_step : (byte b : ℕ) (whole : List ℕ) (front : Option (List ℕ)) (back : List ℕ) → whole ≡ front_of byte front ++ back
    → b ∷ whole ≡ front_of byte (rsplit_step byte b front back).0 ++ (rsplit_step byte b front back).1
cut_step byte b whole (Some front) back split = ap (λ l. b ∷ l) split
cut_step byte b whole None back split =
    cond_both (b == byte) (Some [], back) (None, b ∷ back) (λ (r : Option (List ℕ) × List ℕ). b ∷ whole ≡ front_of byte r.0 ++ r.1)
    (λ is. let same : b ≡ byte = grind (arith, nat_tests) in ap (λ l. b ∷ l) split ∙ ap (λ x. x ∷ back) same)
    (λ _. ap (λ l. b ∷ l) split)

cut_last : (byte : ℕ) (whole : List ℕ) → whole ≡ front_of byte (rsplit_once byte whole).0 ++ (rsplit_once byte whole).1
unfolding rsplit_once
cut_last byte [] = refl
cut_last byte (b ∷ whole) = let later = rsplit_once byte whole in cut_step byte b whole later.0 later.1 (cut_last byte whole)

-- ---- where a host ends

-- it ends with the list, or at a `:`
record EndsAt (bytes : List ℕ) (n : ℕ) : Type 0 where
  within : n ≤ length bytes
  stops : (n ≡ length bytes) ⊎ (get_or bytes n 0 ≡ 58)

ends_here : (b : ℕ) (bytes : List ℕ) (inside : Bool) → (b == 58 && not inside) ≡ true → EndsAt (b ∷ bytes) 0
ends_here b bytes inside is = record { within = omega arith; stops = inr (let colon = (and_parts (b == 58) (not inside) is).0 in grind (arith, nat_tests)) }

ends_later : (b : ℕ) (bytes : List ℕ) (n : ℕ) → EndsAt bytes n → EndsAt (b ∷ bytes) (1 + n)
ends_later b bytes n later = record {
  within = omega (arith, later.within);
  stops = ⊎_elim (λ (end : n ≡ length bytes). inl (omega (arith, end)))
      (λ (colon : get_or bytes n 0 ≡ 58). inr (let next : 1 + n ≡ suc n = omega arith in ap (λ k. get_or (b ∷ bytes) k 0) next ∙ colon)) later.stops;
}

ends_at : (inside : Bool) (bytes : List ℕ) → EndsAt bytes (host_len inside bytes)
unfolding host_len
ends_at inside [] = record { within = omega arith; stops = inl refl }
ends_at inside (b ∷ bytes) =
    let next = cond (b == 91) true (cond (b == 93) false inside) in
    cond_both (b == 58 && not inside) 0 (1 + host_len next bytes) (EndsAt (b ∷ bytes)) (ends_here b bytes inside) (λ _. ends_later b bytes (host_len next bytes) (ends_at next bytes))

-- ---- the text

-- what follows an authority: nothing, or `/` or `?` and more
abbrev IsBehind : List ℕ → Type 0
IsBehind [] = Unit {0}
IsBehind (b ∷ bytes) = (b ≡ 47) ⊎ (b ≡ 63)

behind_both : (path query : Option (List ℕ)) → IsBehind (cut_off 47 path ++ cut_off 63 query)
behind_both None None = tt
behind_both None (Some query) = inr refl
behind_both (Some path) query = inl refl

-- The text of a URL that has an authority: its scheme, `://`, the user information with its `@` if there is any, the
-- host and the port, and what follows them.
record Shown (text : List ℕ) (host : Span) : Type 0 where
  pub scheme : List ℕ
  pub user : Option (List ℕ)
  pub named : List ℕ
  pub behind : List ℕ
  pub split : text ≡ (scheme ++ 58 ∷ 47 ∷ 47 ∷ []) ++ (front_of 64 user ++ (named ++ behind))
  pub start : host.start ≡ length scheme + 3 + length (front_of 64 user)
  pub end : host.end ≡ host.start + host_len false named
  pub follows : IsBehind behind

begins_both : (body : List ℕ) → starts_with nat_eq body (codes "//") ≡ true → body ≡ 47 ∷ 47 ∷ drop 2 body
begins_both [] is = absurd (grind (arith, nat_tests))
begins_both (a ∷ []) is = absurd (grind (arith, nat_tests))
begins_both (a ∷ b ∷ body) is =
    let first : a ≡ 47 = grind (arith, nat_tests) in
    let second : b ≡ 47 = grind (arith, nat_tests) in
    ap (λ x. x ∷ b ∷ body) first ∙ ap (λ x. 47 ∷ x ∷ body) second

-- the span of the host in such a text
placed : (scheme authority behind : List ℕ) → IsBehind behind
    → Shown ((scheme ++ 58 ∷ 47 ∷ 47 ∷ []) ++ (authority ++ behind)) (host_at (length scheme + 3) authority (host_and_port authority))
placed scheme authority behind follows =
    let user = (rsplit_once 64 authority).0 in
    let named = (rsplit_once 64 authority).1 in
    let whole = cut_last 64 authority in
    record {
      scheme = scheme;
      user = user;
      named = named;
      behind = behind;
      split = ap (λ l. (scheme ++ 58 ∷ 47 ∷ 47 ∷ []) ++ l) (ap (λ l. l ++ behind) whole ∙ append_assoc (front_of 64 user) named behind);
      start = omega (arith, ap length whole, length-append (front_of 64 user) named);
      end = refl;
      follows = follows;
    }

-- the span of a text whose body begins with `//`
with_slashes : (text scheme body : List ℕ) (query : Option (List ℕ)) (host : Span) → text ≡ (scheme ++ 58 ∷ body) ++ cut_off 63 query
    → starts_with nat_eq body (codes "//") ≡ true → host_at (length scheme + 3) (split_once 47 (drop 2 body)).0 (host_and_port (split_once 47 (drop 2 body)).0) ≡ host → Shown text host
with_slashes text scheme body query host split slashes is =
    let cut = is_cut 47 (drop 2 body) in
    let authority = (split_once 47 (drop 2 body)).0 in
    let path = (split_once 47 (drop 2 body)).1 in
    let behind = cut_off 47 path ++ cut_off 63 query in
    let whole : text ≡ (scheme ++ 58 ∷ 47 ∷ 47 ∷ []) ++ (authority ++ behind) =
    split ∙ ap (λ b. (scheme ++ 58 ∷ b) ++ cut_off 63 query) (begins_both body slashes ∙ ap (λ l. 47 ∷ 47 ∷ l) cut.split)
    ∙ append_assoc scheme (58 ∷ 47 ∷ 47 ∷ (authority ++ cut_off 47 path)) (cut_off 63 query)
    ∙ ap (λ l. scheme ++ 58 ∷ 47 ∷ 47 ∷ l) (append_assoc authority (cut_off 47 path) (cut_off 63 query))
    ∙ sym (append_assoc scheme (58 ∷ 47 ∷ 47 ∷ []) (authority ++ behind)) in
    subst (λ (t : List ℕ). Shown t host) (sym whole) (subst (Shown ((scheme ++ 58 ∷ 47 ∷ 47 ∷ []) ++ (authority ++ behind))) is (placed scheme authority behind (behind_both path query)))

-- the span of a text whose part before its query has a `:`, before which its scheme stands
in_body : (text front : List ℕ) (query : Option (List ℕ)) (body : List ℕ) (host : Span) → text ≡ front ++ cut_off 63 query → (split_once 58 front).1 ≡ Some body
    → option_map (λ authority. host_at (length (scheme_part text) + 3) authority (host_and_port authority)) (authority_in body) ≡ Some host → Shown text host
in_body text front query body host split is found =
    let cut = is_cut 58 front in
    let scheme = (split_once 58 front).0 in
    let whole : front ≡ scheme ++ 58 ∷ body = cut.split ∙ ap (λ rest. scheme ++ cut_off 58 rest) is in
    let all : text ≡ (scheme ++ 58 ∷ body) ++ cut_off 63 query = split ∙ ap (λ f. f ++ cut_off 63 query) whole in
    let same : scheme_part text ≡ scheme =
    ap (λ t. (split_once 58 t).0) (all ∙ append_assoc scheme (58 ∷ body) (cut_off 63 query)) ∙ ap (λ r. r.0) (split_once_at 58 scheme (body ++ cut_off 63 query) cut.none) in
    let authority = (split_once 47 (drop 2 body)).0 in
    ⊎_elim
    (λ (slashes : starts_with nat_eq body (codes "//") ≡ true).
    let at : Some (host_at (length (scheme_part text) + 3) authority (host_and_port authority)) ≡ Some host =
    ap (λ (b : Bool). option_map (λ a. host_at (length (scheme_part text) + 3) a (host_and_port a)) (cond b (Some authority) None)) (sym slashes) ∙ found in
    let here : host_at (length (scheme_part text) + 3) authority (host_and_port authority) ≡ host = cc at in
    with_slashes text scheme body query host all slashes (ap (λ s. host_at (length s + 3) authority (host_and_port authority)) (sym same) ∙ here))
    (λ (other : starts_with nat_eq body (codes "//") ≡ false).
    let none : None ≡ Some host =
    ap (λ (b : Bool). option_map (λ a. host_at (length (scheme_part text) + 3) a (host_and_port a)) (cond b (Some authority) None)) (sym other) ∙ found in
    absurd (cc none))
    (cases_Bool (starts_with nat_eq body (codes "//")))

by_body : (text : List ℕ) (body : Option (List ℕ)) (host : Span) → body_part text ≡ body
    → option_map (λ authority. host_at (length (scheme_part text) + 3) authority (host_and_port authority)) (option_and_then authority_in body) ≡ Some host → Shown text host
by_body text None host is found = absurd (cc found)
by_body text (Some body) host is found =
    let cut = is_cut 63 text in in_body text (split_once 63 text).0 (split_once 63 text).1 body host cut.split is found

-- where a host is found, the text is so
shown : (text : List ℕ) (host : Span) → host_span text ≡ Some host → Shown text host
shown text host found = by_body text (body_part text) host refl found

-- ---- what stands round the host

-- the byte before it
before_host : (scheme : List ℕ) (user : Option (List ℕ)) (rest : List ℕ) (start : ℕ) → start ≡ length scheme + 3 + length (front_of 64 user)
    → begins_host (get_or ((scheme ++ 58 ∷ 47 ∷ 47 ∷ []) ++ (front_of 64 user ++ rest)) (start - 1) 0) ≡ true
before_host scheme None rest start at =
    let lead = scheme ++ 58 ∷ 47 ∷ [] in
    let split : (scheme ++ 58 ∷ 47 ∷ 47 ∷ []) ++ rest ≡ lead ++ 47 ∷ rest = append_assoc scheme (58 ∷ 47 ∷ 47 ∷ []) rest ∙ sym (append_assoc scheme (58 ∷ 47 ∷ []) (47 ∷ rest)) in
    let place : start - 1 ≡ length lead = omega (arith, at, length-append scheme (58 ∷ 47 ∷ [])) in
    ap (λ l. begins_host (get_or l (start - 1) 0)) split ∙ ap begins_host (get_or_at lead 47 rest 0 (start - 1) (sym place))
before_host scheme (Some user) rest start at =
    let lead = (scheme ++ 58 ∷ 47 ∷ 47 ∷ []) ++ user in
    let split : (scheme ++ 58 ∷ 47 ∷ 47 ∷ []) ++ ((user ++ 64 ∷ []) ++ rest) ≡ lead ++ 64 ∷ rest =
    ap (λ l. (scheme ++ 58 ∷ 47 ∷ 47 ∷ []) ++ l) (append_assoc user (64 ∷ []) rest) ∙ sym (append_assoc (scheme ++ 58 ∷ 47 ∷ 47 ∷ []) user (64 ∷ rest)) in
    let place : start - 1 ≡ length lead = omega (arith, at, length-append user (64 ∷ []), length-append (scheme ++ 58 ∷ 47 ∷ 47 ∷ []) user, length-append scheme (58 ∷ 47 ∷ 47 ∷ [])) in
    ap (λ l. begins_host (get_or l (start - 1) 0)) split ∙ ap begins_host (get_or_at lead 64 rest 0 (start - 1) (sym place))

within_or_end : (n m : ℕ) → n ≤ m → (n ≡ m) ⊎ (n < m)
within_or_end n m le = ⊎_elim (λ (less : n < m). inr less) (λ (more : m ≤ n). inl (omega (arith, le, more))) (cases_lt n m)

-- the byte behind it, or the end of the text
end_or_byte : (named behind : List ℕ) (n : ℕ) → EndsAt named n → IsBehind behind
    → (n ≡ length (named ++ behind)) ⊎ ((n < length (named ++ behind)) × (ends_host (get_or (named ++ behind) n 0) ≡ true))
end_or_byte named behind n ends follows = ⊎_elim (at_end behind follows) at_colon ends.stops
  where
    at_end : (rest : List ℕ) → IsBehind rest → n ≡ length named → (n ≡ length (named ++ rest)) ⊎ ((n < length (named ++ rest)) × (ends_host (get_or (named ++ rest) n 0) ≡ true))
    at_end [] after end = inl (end ∙ ap length (sym (append-nil named)))
    at_end (b ∷ rest) after end =
        let here : get_or (named ++ b ∷ rest) n 0 ≡ b = get_or_at named b rest 0 n (sym end) in
        inr (omega (arith, end, length-append named (b ∷ rest)), ap ends_host here ∙ ⊎_elim (λ (slash : b ≡ 47). ap ends_host slash) (λ (mark : b ≡ 63). ap ends_host mark) after)

    at_colon : get_or named n 0 ≡ 58 → (n ≡ length (named ++ behind)) ⊎ ((n < length (named ++ behind)) × (ends_host (get_or (named ++ behind) n 0) ≡ true))
    at_colon colon = ⊎_elim (at_end behind follows) (λ (inside : n < length named). inr (omega (arith, inside, length-append named behind), ap ends_host (get_or_append_left named behind 0 n inside ∙ colon)))
        (within_or_end n (length named) ends.within)

-- ---- the fragment

cut_place : (here : Bool) (b : ℕ) (bytes front : List ℕ) (rest : Option (List ℕ)) (place : ℕ) → place ≡ length front
    → cond (not here) (1 + place) 0 ≡ length (cond {A = List ℕ × Option (List ℕ)} here ([], Some bytes) (b ∷ front, rest)).0
cut_place true b bytes front rest place is = refl
cut_place false b bytes front rest place is = omega (arith, is)

-- the fragment begins where the text before the first `#` ends
pub fragment_is : (full : List ℕ) → fragment_place full ≡ length (without_fragment full)
unfolding split_once
fragment_is [] = refl
fragment_is (b ∷ full) = let later = split_once 35 full in cut_place (b == 35) b full later.0 later.1 (fragment_place full) (fragment_is full)

-- ---- a host in its serialization

-- Where the host stands in a serialization, whose text ends before its fragment.
pub record StandsIn (full text : List ℕ) (host : Span) : Type 0 where
  pub first : 0 < host.start
  pub within : host.end ≤ length text
  pub long : length text ≤ length full
  pub before : begins_host (get_or full (host.start - 1) 0) ≡ true
  pub behind : (host.end == length text || ends_host (get_or full host.end 0)) ≡ true

-- the same from the place behind the host
ended_by : (full text : List ℕ) (end : ℕ) → (end ≡ length text) ⊎ (ends_host (get_or full end 0) ≡ true) → (end == length text || ends_host (get_or full end 0)) ≡ true
ended_by full text end (inl whole) = or_left _ _ (eq-eqb end (length text) whole)
ended_by full text end (inr byte) = or_right _ _ byte

stands_so : (text fragment : List ℕ) (host : Span) → Shown text host → StandsIn (text ++ fragment) text host
stands_so text fragment host so =
    let lead = so.scheme ++ 58 ∷ 47 ∷ 47 ∷ [] in
    let user = front_of 64 so.user in
    let tail = so.named ++ so.behind in
    let n = host_len false so.named in
    let whole : text ++ fragment ≡ lead ++ (user ++ (tail ++ fragment)) =
    ap (λ t. t ++ fragment) so.split ∙ append_assoc lead (user ++ tail) fragment ∙ ap (λ l. lead ++ l) (append_assoc user tail fragment) in
    let sizes : length text ≡ length so.scheme + 3 + length user + length tail =
    omega (arith, ap length so.split, length-append lead (user ++ tail), length-append user tail, length-append so.scheme (58 ∷ 47 ∷ 47 ∷ [])) in
    let ends = ends_at false so.named in
    let place : host.end ≡ length (lead ++ user) + n = omega (arith, so.start, so.end, length-append lead user, length-append so.scheme (58 ∷ 47 ∷ 47 ∷ [])) in
    record {
      first = omega (arith, so.start);
      within = omega (arith, so.start, so.end, sizes, ends.within, length-append so.named so.behind);
      long = omega (arith, length-append text fragment);
      before = ap (λ l. begins_host (get_or l (host.start - 1) 0)) whole ∙ before_host so.scheme so.user (tail ++ fragment) host.start so.start;
      behind = ended_by (text ++ fragment) text host.end
          (⊎_elim (λ (last : n ≡ length tail). inl (omega (arith, so.start, so.end, sizes, last)))
          (λ (byte : (n < length tail) × (ends_host (get_or tail n 0) ≡ true)).
          let inside = byte.0 in
          let parts : text ++ fragment ≡ (lead ++ user) ++ (tail ++ fragment) = whole ∙ sym (append_assoc lead user (tail ++ fragment)) in
          let shift : host.end - length (lead ++ user) ≡ n = omega (arith, place) in
          let here : get_or (text ++ fragment) host.end 0 ≡ get_or tail n 0 =
          ap (λ l. get_or l host.end 0) parts ∙ get_or-append_right (lead ++ user) (tail ++ fragment) (length (lead ++ user)) host.end 0 refl (omega (arith, place))
          ∙ ap (λ k. get_or (tail ++ fragment) k 0) shift ∙ get_or_append_left tail fragment 0 n inside in
          inr (ap ends_host here ∙ byte.1))
          (end_or_byte so.named so.behind n ends so.follows));
    }

-- where a host is found before a fragment
pub stands_in : (full : List ℕ) (host : Span) → host_span (without_fragment full) ≡ Some host → StandsIn full (without_fragment full) host
stands_in full host found =
    let text = without_fragment full in
    let cut = is_cut 35 full in
    subst (λ (f : List ℕ). StandsIn f text host) (sym cut.split) (stands_so text (cut_off 35 (split_once 35 full).1) host (shown text host found))
