-- A text that ends with its host is read as that text with `/` at its end.
use Rattle.std.proofs.Common.{◌≡◌, ℕ, ◌-◌, ◌<◌, ◌≤◌, Bool, true, false, not, ◌||◌, ◌==◌, ◌⊎◌, List, [], ◌∷◌, ◌++◌, length, get_or, take, drop, None, Ok, All, sym, refl, ap, ◌∙◌, subst, inl, inr, append_assoc, append-nil, arith, length-append, take_all, take_at, drop_at, le-ltb}
use Rattle.std.specs.Prelude.{reverse, codes}
use Rattle.std.specs.List.{list_all, prefix_len}
use Rattle.std.proofs.lemmas.Bool.{cond-true, cond-false, true≢false, lt-leb}
use Rattle.std.proofs.lemmas.Bool.Decides.{nat_tests}
use Rattle.std.proofs.lemmas.List.{get_or-reverse, length-reverse}
use Rattle.std.proofs.Math.Nat.{sub-zero}
use Rattle.std.proofs.lemmas.List.Elements.{All-nil, All-cons, All-head, All-append, All-weaker}
use Rattle.url.specs.declared.scheme.SchemeType.TheVariants.{SpecialNotFile}
use Rattle.url.specs.Input.{is_c0_control_or_space, is_tab_or_new_line, trim_c0_control_and_space, strip_tabs_and_new_lines, split_once}
use Rattle.url.specs.Scheme.{is_special, is_file, is_slash, scheme_type}
use Rattle.url.specs.Path.{parse_path_start}
use Rattle.url.specs.Parts.{Parts}
use Rattle.url.specs.Parser.{Parsed, and_then, parse_authority, with_path, with_tail, before_tail, skip_slashes, after_double_slash, parse_body, parse_parts, parse_by_scheme, split_scheme, parse_url}
use Rattle.url.proofs.InputLemmas.{IsNot, Passes, StopsAt, split_once_none, prefix_len_at, filter_all, All_from_list_all}
use Rattle.url.proofs.RoundTrip.{split_own_scheme, stops_at_path}
use Rattle.dnr_base.specs.declared.scheme.Scheme.{Scheme}
use Rattle.dnr_base.specs.declared.scheme.Scheme.TheVariants.{Http, Https, Ws, Wss, Ftp, ChromeExtension}
use Rattle.dnr_base.specs.declared.span.Span.{Span}
use Rattle.dnr_base.specs.Scheme.{scheme_text}
use Rattle.dnr_base.specs.View.{IsView, is_name_byte}
use Rattle.dnr_spec.specs.UrlView.{max_url, view_of, view_of_url}
use Rattle.url_view.specs.Plain.{is_web, path_len, IsPlain, IsOrigin}
use Rattle.url_view.proofs.PlainHosts.{host_is_long, is_scheme, is_special_scheme}
use Rattle.url_view.proofs.PlainUrls.{seen, plain_is_view, view_of-plain}

-- ---- the bytes of an origin

abbrev is_origin_byte : ℕ → Bool
is_origin_byte b = is_name_byte b || b == 58 || b == 47

abbrev IsVisible : ℕ → Type 0
IsVisible b = 32 < b

scheme_bytes : (scheme : Scheme) → is_web scheme ≡ true
    → list_all is_origin_byte (scheme_text scheme) ≡ true
scheme_bytes Http web = refl
scheme_bytes Https web = refl
scheme_bytes Ws web = refl
scheme_bytes Wss web = refl
scheme_bytes Ftp web = absurd (true≢false (sym web))
scheme_bytes ChromeExtension web = absurd (true≢false (sym web))

abbrev body : List ℕ → List ℕ → List ℕ
body host path = 47 ∷ 47 ∷ (host ++ path)

abbrev text_of : Scheme → List ℕ → List ℕ → List ℕ
text_of scheme host path = scheme_text scheme ++ 58 ∷ body host path

origin_bytes : (scheme : Scheme) (host path : List ℕ) → is_web scheme ≡ true
    → list_all is_name_byte host ≡ true → All (Passes is_origin_byte) path
    → All (Passes is_origin_byte) (text_of scheme host path)
origin_bytes scheme host path web name rest =
    let P = Passes is_origin_byte in
    let of_host
    = All-weaker (Passes is_name_byte) P (λ b passes. grind (arith, nat_tests)) host (All_from_list_all is_name_byte host name) in
    All-append P (scheme_text scheme) (58 ∷ body host path) (All_from_list_all is_origin_byte _ (scheme_bytes scheme web))
    (All-cons P 58 (body host path) refl (All-cons P 47 (47 ∷ (host ++ path)) refl (All-cons P 47 (host ++ path) refl (All-append P host path of_host rest))))

-- ---- nothing is trimmed, stripped or cut off

none_at_front : (xs : List ℕ) → (0 < length xs → 32 < get_or xs 0 0)
    → prefix_len is_c0_control_or_space xs ≡ 0
none_at_front [] first = refl
none_at_front (x ∷ xs) first = cond-false _ _ _ (lt-leb x 32 (first (omega arith)))

untrimmed : (xs : List ℕ) → All IsVisible xs → trim_c0_control_and_space xs ≡ xs
unfolding trim_c0_control_and_space
untrimmed xs visible =
    let start = none_at_front xs (λ inside. visible 0 0 inside) in
    let len = length-reverse xs in
    let end
    = none_at_front (reverse xs) (λ inside. rw (get_or-reverse xs 0 0 (omega arith), sub-zero) (visible (length xs - 1) 0 (omega arith))) in
    rw (start, end) (take_all _ xs (omega arith))

unstripped : (xs : List ℕ) → All IsVisible xs → strip_tabs_and_new_lines xs ≡ xs
unfolding strip_tabs_and_new_lines
unstripped xs visible =
    filter_all _ xs (All-weaker IsVisible (Passes (λ b. not (is_tab_or_new_line b))) (λ b above. grind (arith, nat_tests)) xs visible)

-- ---- what the parser makes of it

abbrev ended : List ℕ → List ℕ → List ℕ → Parsed Parts
ended scheme host path =
    and_then (and_then (parse_authority scheme host) (λ head. Ok (with_path head (parse_path_start (scheme_type scheme) [] path)))) (λ u. Ok (with_tail (before_tail u None None) None None))

skipped : (host path : List ℕ) → 0 < length host → All (Passes is_name_byte) host
    → skip_slashes (body host path) ≡ host ++ path
skipped [] path long name = absurd (omega arith)
skipped (b ∷ host) path long name =
    let test = λ (x : ℕ). x == 47 || x == 92 in
    let first = All-head (Passes is_name_byte) b host name in
    let stops : StopsAt test (b ∷ (host ++ path)) = grind (arith, nat_tests) in
    let two
    = prefix_len_at test (47 ∷ 47 ∷ []) (b ∷ (host ++ path)) (All-cons (Passes test) 47 (47 ∷ []) refl (All-cons (Passes test) 47 [] refl (All-nil (Passes test)))) stops in
    ap (λ n. drop n (47 ∷ 47 ∷ b ∷ (host ++ path))) two

after : (scheme host path : List ℕ) → scheme_type scheme ≡ SpecialNotFile
    → All (Passes is_name_byte) host → (path ≡ []) ⊎ (get_or path 0 0 ≡ 47)
    → after_double_slash scheme (host ++ path) ≡ and_then (parse_authority scheme host) (λ head. Ok (with_path head (parse_path_start (scheme_type scheme) [] path)))
unfolding after_double_slash
after scheme host path kind name first =
    let k = scheme_type scheme in
    let test = λ (b : ℕ). not (is_slash k b) in
    let whole
    = All-weaker (Passes is_name_byte) (Passes test) (λ b passes. grind (arith, nat_tests)) host name in
    let len = prefix_len_at test host path whole (stops_at_path k path first) in
    let front = ap (λ n. take n (host ++ path)) len ∙ take_at host path _ refl in
    let back = ap (λ n. drop n (host ++ path)) len ∙ drop_at host path _ refl in
    λ i. and_then (parse_authority scheme (front i)) (λ head. Ok (with_path head (parse_path_start k [] (back i))))

reached : (scheme : Scheme) (host path : List ℕ) → is_web scheme ≡ true
    → list_all is_name_byte host ≡ true → 0 < length host → All (Passes is_origin_byte) path
    → (path ≡ []) ⊎ (get_or path 0 0 ≡ 47)
    → parse_url None (text_of scheme host path) ≡ ended (scheme_text scheme) host path
unfolding parse_url parse_parts parse_body
reached scheme host path web name long rest first =
    let s = scheme_text scheme in
    let kind = is_special_scheme scheme web in
    let valid = is_scheme scheme web in
    let bytes = origin_bytes scheme host path web name rest in
    let text = text_of scheme host path in
    let visible
    = All-weaker (Passes is_origin_byte) IsVisible (λ b passes. grind (arith, nat_tests)) text bytes in
    let clean = ap strip_tabs_and_new_lines (untrimmed text visible) ∙ unstripped text visible in
    let hash = ap (split_once 35) clean
    ∙ split_once_none 35 text (All-weaker (Passes is_origin_byte) (IsNot 35) (λ b passes e. grind (arith, nat_tests)) text bytes) in
    let question = ap (λ r. split_once 63 r.0) hash
    ∙ split_once_none 63 text (All-weaker (Passes is_origin_byte) (IsNot 63) (λ b passes e. grind (arith, nat_tests)) text bytes) in
    let split = ap (λ r. split_scheme r.0) question ∙ split_own_scheme s (body host path) valid in
    let names = All_from_list_all is_name_byte host name in
    let made : parse_body s None (body host path) ≡ and_then (parse_authority s host) (λ head. Ok (with_path head (parse_path_start (scheme_type s) [] path)))
    = cond-false _ _ _ (ap is_file kind) ∙ cond-true _ _ _ (ap is_special kind)
    ∙ ap (after_double_slash s) (skipped host path long names)
    ∙ after s host path kind names first in
    (λ i. parse_by_scheme (split i) None (question i).0 (question i).1 (hash i).1)
    ∙ ap (λ l. parse_parts l None (body host path) None None) valid.lower
    ∙ ap (λ r. and_then r (λ u. Ok (with_tail (before_tail u None None) None None))) made

same_path : parse_path_start SpecialNotFile [] [] ≡ parse_path_start SpecialNotFile [] (47 ∷ [])
unfolding parse_path_start
same_path = refl

same_url : (scheme : Scheme) (host : List ℕ) → is_web scheme ≡ true
    → list_all is_name_byte host ≡ true → 0 < length host
    → parse_url None (text_of scheme host []) ≡ parse_url None (text_of scheme host (47 ∷ []))
same_url scheme host web name long =
    let s = scheme_text scheme in
    let P = Passes is_origin_byte in
    let kind = is_special_scheme scheme web in
    let path : parse_path_start (scheme_type s) [] [] ≡ parse_path_start (scheme_type s) [] (47 ∷ [])
    = subst (λ k. parse_path_start k [] [] ≡ parse_path_start k [] (47 ∷ [])) (sym kind) same_path in
    reached scheme host [] web name long (All-nil P) (inl refl)
    ∙ ap (λ p. and_then (and_then (parse_authority s host) (λ head. Ok (with_path head p))) (λ u. Ok (with_tail (before_tail u None None) None None))) path
    ∙ sym (reached scheme host (47 ∷ []) web name long (All-cons P 47 [] refl (All-nil P)) (inr refl))

-- ---- the law

root : path_len false (47 ∷ []) ≡ 1
unfolding path_len
root = refl

with_slash : {text : List ℕ} {cut : ℕ} {scheme : Scheme} {span : Span}
    → IsOrigin text cut scheme span → IsPlain (text ++ codes "/") cut scheme span
with_slash {text} {cut} {scheme} {span} origin =
    let spelled = ap (λ t. t ++ codes "/") origin.spelled
    ∙ append_assoc (scheme_text scheme) (codes "://" ++ origin.host) (codes "/") in
    record {
      host = origin.host;
      path = codes "/";
      query = [];
      fragment = [];
      spelled = spelled;
      web = origin.web;
      name = origin.name;
      named = origin.named;
      rooted = refl;
      whole_path = root;
      whole_query = refl;
      whole_fragment = refl;
      start = origin.start;
      end = origin.end;
      end_of_query = omega (arith, origin.end_of_query, length-append text (codes "/"));
    }

pub origin_is_view : {text : List ℕ} {cut : ℕ} {scheme : Scheme} {span : Span}
    → IsOrigin text cut scheme span → IsView (seen (text ++ codes "/") cut scheme span)
origin_is_view origin = plain_is_view (with_slash origin)

-- the view of an origin is that of the text with `/` at its end
pub view_of-origin : {text : List ℕ} {cut : ℕ} {scheme : Scheme} {span : Span}
    → IsOrigin text cut scheme span → length text < max_url
    → view_of text ≡ Ok (seen (text ++ codes "/") cut scheme span)
view_of-origin {text} {cut} {scheme} {span} origin short =
    let long = text ++ codes "/" in
    let size = length-append text (codes "/") in
    let fits : length text ≤ max_url = omega arith in
    let fits_too : length long ≤ max_url = omega arith in
    let bare : text ≡ text_of scheme origin.host [] = origin.spelled
    ∙ ap (λ h. scheme_text scheme ++ (codes "://" ++ h)) (sym (append-nil origin.host)) in
    let rooted : text_of scheme origin.host (47 ∷ []) ≡ long
    = sym (ap (λ t. t ++ codes "/") origin.spelled ∙ append_assoc (scheme_text scheme) (codes "://" ++ origin.host) (codes "/")) in
    let same = ap (parse_url None) bare
    ∙ same_url scheme origin.host origin.web origin.name (host_is_long origin.host origin.named)
    ∙ ap (parse_url None) rooted in
    cond-false _ _ _ (le-ltb max_url (length text) fits)
    ∙ ap view_of_url same
    ∙ sym (cond-false _ _ _ (le-ltb max_url (length long) fits_too))
    ∙ view_of-plain (with_slash origin) fits_too
