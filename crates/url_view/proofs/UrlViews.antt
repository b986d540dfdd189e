-- The view of a URL is made of the places of its parts.
use Rattle.std.proofs.Common.{◌≡◌, ℕ, ◌+◌, ◌-◌, ◌<◌, ◌≤◌, Bool, true, false, cond, not, ◌||◌, ◌==◌, ◌⊎◌, List, [], ◌∷◌, ◌++◌, length, get_or, drop, Option, Some, None, sym, refl, ap, ◌∙◌, inl, inr, ⊎_elim, append_assoc, append-nil, arith, length-append, lit≤, lt-ltb, le-ltb}
use Rattle.std.specs.Prelude.{Result, Ok, Err, is_some, unwrap_or, option_map, decimal, codes, slice_range, if◌then◌else◌}
use Rattle.std.specs.List.{concat}
use Rattle.std.proofs.lemmas.Bool.{cond-true, cond-false, cases_Bool, true≢false, both_ways, eq-eqb, or_left, or_right}
use Rattle.std.proofs.lemmas.List.{get_or_at, get_or-append_right}
use Rattle.url.specs.declared.slicing.Position.TheVariants.{BeforeHost, AfterHost, AfterPassword, AfterQuery}
use Rattle.url.specs.Input.{when, is_empty, split_once}
use Rattle.url.specs.Host.{host_text}
use Rattle.url.specs.Parts.{Parts, has_authority, has_credentials, host_or_empty, needs_guard, pieces, serialize, text_before, text_between, offset, IsValid}
use Rattle.url.proofs.PiecesLemmas.{option_cases, concat-split, slice-upto, upto_ordered, upto-le, steps}
use Rattle.url.proofs.SetterLemmas.{no_credentials}
use Rattle.url.proofs.ValidLemmas.{IsAscii-serialize}
use Rattle.dnr_base.specs.declared.scheme.Scheme.{Scheme}
use Rattle.dnr_spec.specs.declared.view_refusal.ViewRefusal.{ViewRefusal}
use Rattle.dnr_spec.specs.declared.view_refusal.ViewRefusal.TheVariants.{UrlTooLong, BadScheme, BadHost}
use Rattle.dnr_base.specs.Scheme.{scheme_named}
use Rattle.dnr_base.specs.View.{View, IsView, fragment_place, is_host, begins_host, ends_host}
use Rattle.dnr_spec.specs.UrlView.{max_url, without_fragment, host_span, if_short, with_host, with_scheme, view_of_full}
use Rattle.url_view.proofs.HostPlace.{without_fragment-serialize, scheme_part-serialize, no_host_span, own_path, own_span, own_host_span}

abbrev pub own_host_text : Parts → List ℕ
own_host_text url = text_between url BeforeHost AfterHost

-- the view with this scheme, if its host is one
abbrev pub own_view : Parts → Scheme → View
own_view url scheme = record { full = serialize url; cut = offset url AfterQuery; scheme = scheme; host = own_span url }

abbrev pub own_result : Parts → Option Scheme → Result View ViewRefusal
own_result url None = Err BadScheme
own_result url (Some scheme) = if is_host (own_host_text url) then if_short (own_view url scheme) else Err BadHost

-- where there is no authority, there is no text that could be a host
no_host_text : (url : Parts) → url.host ≡ None → is_host (own_host_text url) ≡ false
no_host_text url none = rw none refl

own_slice : (url : Parts) → slice_range (serialize url) (offset url BeforeHost) (offset url AfterHost) ≡ own_host_text url
own_slice url = slice-upto (pieces url) 6 7 (lit≤ tt)

with_own_host : (url : Parts) → IsValid url → (scheme : Scheme) → with_host (serialize url) scheme (host_span (without_fragment (serialize url))) ≡ own_result url (Some scheme)
with_own_host url valid scheme =
    let text = without_fragment-serialize url valid in
    let full = serialize url in
    ap (λ t. with_host full scheme (host_span t)) text
    ∙ ⊎_elim
    (λ none. ap (with_host full scheme) (no_host_span url valid none) ∙ sym (cond-false _ _ _ (no_host_text url none)))
    (λ some.
    ap (with_host full scheme) (own_host_span url valid (ap is_some some.1))
    ∙ ap (λ h. cond (is_host h) (if_short (record { full = full; cut = length (without_fragment full); scheme = scheme; host = own_span url })) (Err BadHost)) (own_slice url)
    ∙ ap (λ t. cond (is_host (own_host_text url)) (if_short (record { full = full; cut = length t; scheme = scheme; host = own_span url })) (Err BadHost)) text)
    (option_cases url.host)

pub view_of_full-serialize : (url : Parts) → IsValid url → view_of_full (serialize url) ≡ own_result url (scheme_named url.scheme)
view_of_full-serialize url valid = ap (λ s. with_scheme (serialize url) (scheme_named s)) (scheme_part-serialize url valid) ∙ by_scheme (scheme_named url.scheme)
  where
    by_scheme : (o : Option Scheme) → with_scheme (serialize url) o ≡ own_result url o
    by_scheme None = refl
    by_scheme (Some scheme) = with_own_host url valid scheme

-- ---- what the code asks and is told

pub scheme_told : (url : Parts) (name : List ℕ) (found answer : Option Scheme) → name ≡ url.scheme → found ≡ scheme_named name → found ≡ answer → scheme_named url.scheme ≡ answer
scheme_told url name found answer own named told = ap scheme_named (sym own) ∙ sym named ∙ told

pub host_told : (url : Parts) (host : List ℕ) (tested answer : Bool) → host ≡ own_host_text url → tested ≡ is_host host → tested ≡ answer → is_host (own_host_text url) ≡ answer
host_told url host tested answer own named told = ap is_host (sym own) ∙ sym named ∙ told

pub placed : (url : Parts) (scheme : Scheme) (full : List ℕ) (cut start end : ℕ) → full ≡ serialize url → cut ≡ offset url AfterQuery → start ≡ offset url BeforeHost → end ≡ offset url AfterHost
    → record { full = full; cut = cut; scheme = scheme; host = record { start = start; end = end } } ≡ own_view url scheme
placed url scheme full cut start end text fragment begin stop =
    λ i. record { full = text i; cut = fragment i; scheme = scheme; host = record { start = begin i; end = stop i } }

-- ---- each outcome

pub refused_scheme : (url : Parts) → IsValid url → scheme_named url.scheme ≡ None → Err BadScheme ≡ view_of_full (serialize url)
refused_scheme url valid none = sym (view_of_full-serialize url valid ∙ ap (own_result url) none)

pub refused_host : (url : Parts) → IsValid url → (scheme : Scheme) → scheme_named url.scheme ≡ Some scheme → is_host (own_host_text url) ≡ false → Err BadHost ≡ view_of_full (serialize url)
refused_host url valid scheme some other = sym (view_of_full-serialize url valid ∙ ap (own_result url) some ∙ cond-false _ _ _ other)

at_length : (url : Parts) → IsValid url → (scheme : Scheme) → scheme_named url.scheme ≡ Some scheme → is_host (own_host_text url) ≡ true → view_of_full (serialize url) ≡ if_short (own_view url scheme)
at_length url valid scheme some host = view_of_full-serialize url valid ∙ ap (own_result url) some ∙ cond-true _ _ _ host

pub refused_length : (url : Parts) → IsValid url → (scheme : Scheme) → scheme_named url.scheme ≡ Some scheme → is_host (own_host_text url) ≡ true → max_url < length (serialize url) → Err UrlTooLong ≡ view_of_full (serialize url)
refused_length url valid scheme some host long = sym (at_length url valid scheme some host ∙ cond-true _ _ _ (lt-ltb max_url (length (serialize url)) long))

pub given_view : (url : Parts) → IsValid url → (scheme : Scheme) → scheme_named url.scheme ≡ Some scheme → is_host (own_host_text url) ≡ true → length (serialize url) ≤ max_url → Ok (own_view url scheme) ≡ view_of_full (serialize url)
given_view url valid scheme some host short = sym (at_length url valid scheme some host ∙ cond-false _ _ _ (le-ltb max_url (length (serialize url)) short))

-- ---- what every view keeps

host_nonempty : (host : List ℕ) → is_host host ≡ true → 0 < length host
host_nonempty [] h = absurd (true≢false (sym h))
host_nonempty (b ∷ host) h = omega arith

authority_of_host : (url : Parts) → is_host (own_host_text url) ≡ true → has_authority url ≡ true
authority_of_host url h =
    ⊎_elim (λ none. absurd (both_ways _ (no_host_text url none) h)) (λ some. ap is_some some.1) (option_cases url.host)

begun : (url : Parts) → has_authority url ≡ true → begins_host (get_or (serialize url) (offset url BeforeHost - 1) 0) ≡ true
begun url some =
    let xs = pieces url in
    let s = steps url in
    ⊎_elim
    (λ user.
    let one : cond {A = ℕ} (has_credentials url) 1 0 ≡ 1 = rw user in
    let at : offset url BeforeHost - 1 ≡ offset url AfterPassword = omega (arith, s.before_host, one) in
    let split : serialize url ≡ text_before url AfterPassword ++ 64 ∷ concat (drop 6 xs) = concat-split xs 5 ∙ ap (λ t. text_before url AfterPassword ++ (when t (codes "@") ++ concat (drop 6 xs))) user in
    rw (at, split, get_or_at (text_before url AfterPassword) 64 (concat (drop 6 xs)) 0 _ refl) refl)
    (λ bare.
    let empty = no_credentials url bare in
    let slashes : cond {A = ℕ} (has_authority url) 3 1 ≡ 3 = rw some in
    let mark : cond {A = ℕ} (has_credentials url) 1 0 ≡ 0 = rw bare in
    let colon : cond {A = ℕ} (not (is_empty url.password)) 1 0 ≡ 0 = rw empty.1 in
    let front = url.scheme ++ 58 ∷ 47 ∷ [] in
    let at : offset url BeforeHost - 1 ≡ length front = omega (arith, s.before_host, s.after_password, s.before_password, s.after_username, s.before_username, s.after_scheme, slashes, mark, colon, ap length empty.0, ap length empty.1, length-append url.scheme (58 ∷ 47 ∷ [])) in
    let split : serialize url ≡ front ++ 47 ∷ concat (drop 2 xs) = ap (λ t. url.scheme ++ (cond t (codes "://") (codes ":") ++ concat (drop 2 xs))) some ∙ sym (append_assoc url.scheme (58 ∷ 47 ∷ []) (47 ∷ concat (drop 2 xs))) in
    rw (at, split, get_or_at front 47 (concat (drop 2 xs)) 0 _ refl) refl)
    (cases_Bool (has_credentials url))

-- the port, the path and the query, with what follows
abbrev behind_host : Option ℕ → List ℕ → Option (List ℕ) → List ℕ → List ℕ
behind_host port path query rest =
    when (is_some port) (codes ":") ++ (unwrap_or (option_map decimal port) [] ++ (path ++ (when (is_some query) (codes "?") ++ rest)))

ends_host-behind : (port : Option ℕ) (path : List ℕ) (query : Option (List ℕ)) (rest : List ℕ) → (path ≡ []) ⊎ (get_or path 0 0 ≡ 47)
    → ((port ≡ None) × (path ≡ []) × (query ≡ None)) ⊎ (ends_host (get_or (behind_host port path query rest) 0 0) ≡ true)
ends_host-behind (Some n) path query rest first = inr refl
ends_host-behind None [] None rest first = inl (refl, refl, refl)
ends_host-behind None [] (Some q) rest first = inr refl
ends_host-behind None (b ∷ path) query rest first =
    let slash : b ≡ 47 = ⊎_elim (λ empty. absurd (let no = ap length empty in omega arith)) (λ e. e) first in
    inr (rw slash refl)

ended : (url : Parts) → IsValid url → has_authority url ≡ true → (offset url AfterHost == offset url AfterQuery || ends_host (get_or (serialize url) (offset url AfterHost) 0)) ≡ true
ended url valid some =
    let xs = pieces url in
    let s = steps url in
    let end = offset url AfterHost in
    let tail : concat (drop 7 xs) ≡ behind_host url.port url.path url.query (concat (drop 12 xs)) = rw some refl in
    let zero : end - end ≡ 0 = omega arith in
    let at : get_or (serialize url) end 0 ≡ get_or (behind_host url.port url.path url.query (concat (drop 12 xs))) 0 0
    = ap (λ l. get_or l end 0) (concat-split xs 7) ∙ get_or-append_right (text_before url AfterHost) (concat (drop 7 xs)) end end 0 refl (omega arith) ∙ (λ i. get_or (tail i) (zero i) 0) in
    ⊎_elim
    (λ none.
    let colon : cond {A = ℕ} (is_some url.port) 1 0 ≡ 0 = rw none.0 in
    let digits : length (unwrap_or (option_map decimal url.port) []) ≡ 0 = rw none.0 in
    let guard : cond {A = ℕ} (needs_guard url) 2 0 ≡ 0 = rw some in
    let mark : cond {A = ℕ} (is_some url.query) 1 0 ≡ 0 = rw none.2 in
    let query : length (unwrap_or url.query []) ≡ 0 = rw none.2 in
    let same : end ≡ offset url AfterQuery = omega (arith, s.before_port, s.after_port, s.before_path, s.after_path, s.before_query, s.after_query, colon, digits, guard, mark, query, ap length none.1) in
    or_left _ _ (eq-eqb _ _ same))
    (λ mark. or_right _ _ (ap ends_host at ∙ mark))
    (ends_host-behind url.port url.path url.query (concat (drop 12 xs)) (own_path url valid some))

cut_step : (here : Bool) (b : ℕ) (bytes front : List ℕ) (back : Option (List ℕ)) (place : ℕ) → place ≡ length front
    → cond (not here) (1 + place) 0 ≡ length (cond {A = List ℕ × Option (List ℕ)} here ([], Some bytes) (b ∷ front, back)).0
cut_step true b bytes front back place e = refl
cut_step false b bytes front back place e = omega (arith, e)

-- the fragment begins where the text before the first `#` ends
fragment_place-is : (full : List ℕ) → fragment_place full ≡ length (without_fragment full)
unfolding split_once
fragment_place-is [] = refl
fragment_place-is (b ∷ full) =
    let later = split_once 35 full in cut_step (b == 35) b full later.0 later.1 (fragment_place full) (fragment_place-is full)

pub own_view_is_view : (url : Parts) → IsValid url → (scheme : Scheme) → is_host (own_host_text url) ≡ true → IsView (own_view url scheme)
own_view_is_view url valid scheme h =
    let some = authority_of_host url h in
    let s = steps url in
    let long = host_nonempty (own_host_text url) h in
    let same = ap length (append-nil (host_text (host_or_empty url))) in
    let slashes : cond {A = ℕ} (has_authority url) 3 1 ≡ 3 = rw some in
    record {
      ascii = IsAscii-serialize url valid;
      first = omega (arith, slashes);
      order = omega arith;
      within = upto_ordered (pieces url) 7 13 (lit≤ tt);
      cut = upto-le (pieces url) 13;
      fragment = sym (fragment_place-is (serialize url) ∙ ap length (without_fragment-serialize url valid));
      host = rw (own_slice url) h;
      before = begun url some;
      behind = ended url valid some;
    }
