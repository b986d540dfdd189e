-- Where the serialization of a URL shows its scheme, its host and its fragment.
use Rattle.std.proofs.Common.{◌≡◌, ℕ, ◌+◌, ◌-◌, Bool, true, false, cond, ◌&&◌, ◌==◌, ◌⊎◌, List, [], ◌∷◌, ◌++◌, length, get_or, take, drop, Option, Some, None, All, sym, refl, ap, ◌∙◌, inl, inr, ⊎_elim, append_assoc, append-nil, arith, length-append}
use Rattle.std.specs.Prelude.{is_some, unwrap_or, option_map, option_and_then, decimal, codes, nat_eq}
use Rattle.std.specs.List.{concat, starts_with}
use Rattle.std.proofs.lemmas.Bool.{cond-false, cases_Bool}
use Rattle.std.proofs.lemmas.Bool.Decides.{nat_tests}
use Rattle.std.proofs.lemmas.List.Elements.{All-weaker}
use Rattle.url.specs.declared.slicing.Position.TheVariants.{BeforeUsername, BeforeHost, AfterHost, AfterPort, AfterQuery}
use Rattle.url.specs.Input.{when, split_once}
use Rattle.url.specs.Scheme.{IsScheme, is_scheme_byte}
use Rattle.url.specs.Host.{host_text}
use Rattle.url.specs.Parser.{host_len}
use Rattle.url.specs.Parts.{Parts, kind_of, has_authority, host_or_empty, pieces, serialize, text_before, text_between, offset, IsValid}
use Rattle.url.proofs.InputLemmas.{IsNot, Passes, split_once_at, split_once_none}
use Rattle.url.proofs.SchemeLemmas.{scheme_bytes}
use Rattle.url.proofs.ValidLemmas.{hierarchical, base_from_authority}
use Rattle.url.proofs.PathLemmas.{rooted}
use Rattle.url.proofs.PiecesLemmas.{concat-append, steps}
use Rattle.url.proofs.LayoutLemmas.{bare_without_authority}
use Rattle.url.proofs.SetterLemmas.{own_host}
use Rattle.url.proofs.TextLemmas.{is_authority_byte, authority_bytes}
use Rattle.url.proofs.HostRoundTrip.{host_len-host_text}
use Rattle.url.proofs.RoundTrip.{split_fragment, split_query, split_at_sign}
use Rattle.dnr_base.specs.declared.span.Span.{Span}
use Rattle.dnr_spec.specs.UrlView.{without_fragment, scheme_part, body_part, authority_in, authority_of, host_and_port, host_at, host_span}

-- ---- the fragment

pub without_fragment-serialize : (url : Parts) → IsValid url → without_fragment (serialize url) ≡ text_before url AfterQuery
without_fragment-serialize url valid = ap (λ r. r.0) (split_fragment url valid)

-- ---- the scheme

-- what follows the scheme begins with `:`
colon_first : (authority : Bool) (rest : List ℕ) → cond authority (codes "://") (codes ":") ++ rest ≡ 58 ∷ (when authority (codes "//") ++ rest)
colon_first true rest = refl
colon_first false rest = refl

split_at_colon : (url : Parts) → IsScheme url.scheme → (rest : List ℕ) → split_once 58 (url.scheme ++ (cond (has_authority url) (codes "://") (codes ":") ++ rest)) ≡ (url.scheme, Some (when (has_authority url) (codes "//") ++ rest))
split_at_colon url scheme rest =
    let none = All-weaker (Passes is_scheme_byte) (IsNot 58) (λ b passes e. grind (arith, nat_tests)) url.scheme (scheme_bytes url.scheme scheme) in
    ap (λ l. split_once 58 (url.scheme ++ l)) (colon_first (has_authority url) rest) ∙ split_once_at 58 url.scheme _ none

pub scheme_part-serialize : (url : Parts) → IsValid url → scheme_part (serialize url) ≡ url.scheme
scheme_part-serialize url valid = ap (λ r. r.0) (split_at_colon url valid.head.scheme (concat (drop 2 (pieces url))))

scheme_part-text : (url : Parts) → IsValid url → scheme_part (text_before url AfterQuery) ≡ url.scheme
scheme_part-text url valid = ap (λ r. r.0) (split_at_colon url valid.head.scheme (concat (take 11 (drop 2 (pieces url)))))

-- ---- the body

-- what stands behind the scheme's `:` and ends before the query
abbrev body : Parts → List ℕ
body url = when (has_authority url) (codes "//") ++ concat (take 9 (drop 2 (pieces url)))

body_part-text : (url : Parts) → IsValid url → body_part (text_before url AfterQuery) ≡ Some (body url)
body_part-text url valid =
    ap (λ r. (split_once 58 r.0).1) (split_query url valid) ∙ ap (λ r. r.1) (split_at_colon url valid.head.scheme (concat (take 9 (drop 2 (pieces url)))))

-- ---- no authority

-- the path, behind the guard where it needs one
abbrev guarded : List ℕ → List ℕ
guarded path = when (get_or path 0 0 == 47 && get_or path 1 0 == 47) (codes "/.") ++ path

no_slashes : (path : List ℕ) → starts_with nat_eq (guarded path) (codes "//") ≡ false
no_slashes [] = refl
no_slashes (a ∷ []) = grind (arith, nat_tests)
no_slashes (a ∷ b ∷ path) =
    ⊎_elim (λ both. rw both refl) (λ other. rw other (grind (arith, nat_tests))) (cases_Bool (a == 47 && b == 47))

plain_body : (url : Parts) → IsValid url → url.host ≡ None → body url ≡ guarded url.path
plain_body url valid none =
    let bare = bare_without_authority url valid.head none in
    rw (none, bare.0, bare.1, bare.2) (simp append-nil)

pub no_host_span : (url : Parts) → IsValid url → url.host ≡ None → host_span (text_before url AfterQuery) ≡ None
no_host_span url valid none =
    let place = λ (o : Option (List ℕ)). option_map (λ authority. host_at (length (scheme_part (text_before url AfterQuery)) + 3) authority (host_and_port authority)) o in
    ap (λ b. place (option_and_then authority_in b)) (body_part-text url valid ∙ ap Some (plain_body url valid none))
    ∙ ap place (cond-false _ _ _ (no_slashes url.path))

-- ---- an authority

-- up to the first slash
split_slash : (xs path : List ℕ) → All (IsNot 47) xs → (path ≡ []) ⊎ (get_or path 0 0 ≡ 47) → (split_once 47 (xs ++ path)).0 ≡ xs
split_slash xs [] none first = ap (λ r. r.0) (ap (split_once 47) (append-nil xs) ∙ split_once_none 47 xs none)
split_slash xs (b ∷ path) none first =
    let slash : b ≡ 47 = ⊎_elim (λ empty. absurd (let no = ap length empty in omega arith)) (λ e. e) first in
    ap (λ c. (split_once 47 (xs ++ c ∷ path)).0) slash ∙ ap (λ r. r.0) (split_once_at 47 xs path none)

pub own_path : (url : Parts) → IsValid url → has_authority url ≡ true → (url.path ≡ []) ⊎ (get_or url.path 0 0 ≡ 47)
own_path url valid some = rooted (kind_of url) url.path (hierarchical url valid.path (base_from_authority url some)).0

rich_body : (url : Parts) → has_authority url ≡ true → body url ≡ 47 ∷ 47 ∷ (text_between url BeforeUsername AfterPort ++ url.path)
rich_body url some = rw some (simp (append_assoc, append-nil))

authority_of-text : (url : Parts) → IsValid url → has_authority url ≡ true → authority_of (text_before url AfterQuery) ≡ Some (text_between url BeforeUsername AfterPort)
authority_of-text url valid some =
    let none = All-weaker (Passes is_authority_byte) (IsNot 47) (λ b passes e. grind (arith, nat_tests)) (text_between url BeforeUsername AfterPort) (authority_bytes url valid.head) in
    ap (option_and_then authority_in) (body_part-text url valid ∙ ap Some (rich_body url some))
    ∙ ap Some (split_slash (text_between url BeforeUsername AfterPort) url.path none (own_path url valid some))

-- ---- the host in the authority

own_host_len : (url : Parts) → IsValid url → has_authority url ≡ true → host_len false (text_between url BeforeHost AfterPort) ≡ length (host_text (host_or_empty url))
own_host_len url valid some = host_len-host_text (kind_of url) (host_or_empty url) (port url.port) (own_host url valid.head some) (ends url.port)
  where
    port : Option ℕ → List ℕ
    port o = when (is_some o) (codes ":") ++ (unwrap_or (option_map decimal o) [] ++ [])

    ends : (o : Option ℕ) → (port o ≡ []) ⊎ (get_or (port o) 0 0 ≡ 58)
    ends None = inl refl
    ends (Some n) = inr refl

own_host_start : (url : Parts) → has_authority url ≡ true → length url.scheme + 3 + (length (text_between url BeforeUsername AfterPort) - length (text_between url BeforeHost AfterPort)) ≡ offset url BeforeHost
own_host_start url some =
    let xs = pieces url in
    let front = concat (take 4 (drop 2 xs)) in
    let whole : length (text_between url BeforeUsername AfterPort) ≡ length front + length (text_between url BeforeHost AfterPort) = ap length (concat-append (take 4 (drop 2 xs)) (take 3 (drop 6 xs))) ∙ length-append front (text_between url BeforeHost AfterPort) in
    let before : offset url BeforeHost ≡ offset url BeforeUsername + length front = ap length (concat-append (take 2 xs) (take 4 (drop 2 xs))) ∙ length-append (text_before url BeforeUsername) front in
    let s = steps url in
    let slashes : cond {A = ℕ} (has_authority url) 3 1 ≡ 3 = rw some in
    omega (arith, whole, before, s.before_username, s.after_scheme, slashes)

abbrev pub own_span : Parts → Span
own_span url = record { start = offset url BeforeHost; end = offset url AfterHost }

pub own_host_span : (url : Parts) → IsValid url → has_authority url ≡ true → host_span (text_before url AfterQuery) ≡ Some (own_span url)
own_host_span url valid some =
    let after = (split_at_sign url valid.head).after in
    let scheme = scheme_part-text url valid in
    let start = own_host_start url some in
    let end = own_host_len url valid some in
    let s = steps url in
    ap (option_map (λ authority. host_at (length (scheme_part (text_before url AfterQuery)) + 3) authority (host_and_port authority))) (authority_of-text url valid some)
    ∙ ap (λ rest. Some (host_at (length (scheme_part (text_before url AfterQuery)) + 3) (text_between url BeforeUsername AfterPort) rest)) after
    ∙ ap (λ t. Some (host_at (length t + 3) (text_between url BeforeUsername AfterPort) (text_between url BeforeHost AfterPort))) scheme
    ∙ ap (λ n. Some (record { start = n; end = n + host_len false (text_between url BeforeHost AfterPort) })) start
    ∙ ap (λ n. Some (record { start = offset url BeforeHost; end = offset url BeforeHost + n })) end
    ∙ ap (λ n. Some (record { start = offset url BeforeHost; end = n })) (sym s.after_host)
