-- A view that a text gives is a view.
use Rattle.std.proofs.Common.{◌≡◌, ℕ, ◌-◌, ◌<◌, ◌≤◌, true, false, List, [], length, take, drop, Option, Some, None, Result, Ok, Err, IsAscii, sym, refl, ap, ◌∙◌, subst, ⊎_elim, arith}
use Rattle.std.specs.Prelude.{nat_lt, slice_range}
use Rattle.std.proofs.lemmas.Bool.{cases_Bool, cases_lt}
use Rattle.std.proofs.lemmas.Bool.Decides.{nat_tests}
use Rattle.url.specs.declared.error.ParseError.{ParseError}
use Rattle.url.specs.Parser.{parse_url}
use Rattle.url.specs.Parts.{Parts, serialize}
use Rattle.dnr_base.specs.declared.scheme.Scheme.{Scheme}
use Rattle.dnr_base.specs.declared.span.Span.{Span}
use Rattle.dnr_base.specs.Scheme.{scheme_named}
use Rattle.dnr_base.specs.View.{View, IsView, is_host}
use Rattle.dnr_spec.specs.declared.view_refusal.ViewRefusal.{ViewRefusal}
use Rattle.dnr_spec.specs.UrlView.{max_url, without_fragment, scheme_part, host_span, if_short, with_host, with_scheme, view_of_url, view_of}
use Rattle.view_laws.specs.Laws.{TextsGiveViews}
use Rattle.view_laws.proofs.Ascii.{url_ascii}
use Rattle.view_laws.proofs.Places.{StandsIn, stands_in, fragment_is}

-- what holds of a view, if there is one
abbrev IfView : (View → Type 0) → Result View ViewRefusal → Type 0
IfView P (Ok view) = P view
IfView P (Err why) = Unit {0}

no_host : is_host [] ≡ true → ⊥
no_host is = absurd (grind (arith, nat_tests))

-- a host is not empty
nonempty : (full : List ℕ) (start end : ℕ) → is_host (slice_range full start end) ≡ true → start < end
nonempty full start end is =
    ⊎_elim (λ (less : start < end). less)
    (λ (more : end ≤ start).
    let none : end - start ≡ 0 = omega (arith, more) in
    absurd (no_host (ap (λ n. is_host (take n (drop start full))) (sym none) ∙ is)))
    (cases_lt start end)

view_is : (full : List ℕ) (scheme : Scheme) (host : Span) → IsAscii full → StandsIn full (without_fragment full) host → is_host (slice_range full host.start host.end) ≡ true
    → IsView (record { full = full; cut = length (without_fragment full); scheme = scheme; host = host })
view_is full scheme host ascii stands is = record {
  ascii = ascii;
  first = stands.first;
  order = nonempty full host.start host.end is;
  within = stands.within;
  cut = stands.long;
  fragment = sym (fragment_is full);
  host = is;
  before = stands.before;
  behind = stands.behind;
}

short_is : (view : View) → IsView view → IfView IsView (if_short view)
short_is view is =
    ⊎_elim (λ (long : nat_lt max_url (length view.full) ≡ true). rw long tt) (λ (short : nat_lt max_url (length view.full) ≡ false). rw short is) (cases_Bool (nat_lt max_url (length view.full)))

host_is : (full : List ℕ) (scheme : Scheme) (found : Option Span) → IsAscii full → host_span (without_fragment full) ≡ found → IfView IsView (with_host full scheme found)
host_is full scheme None ascii found = tt
host_is full scheme (Some host) ascii found =
    let view : View = record { full = full; cut = length (without_fragment full); scheme = scheme; host = host } in
    ⊎_elim
    (λ (is : is_host (slice_range full host.start host.end) ≡ true). rw is (short_is view (view_is full scheme host ascii (stands_in full host found) is)))
    (λ (other : is_host (slice_range full host.start host.end) ≡ false). rw other tt)
    (cases_Bool (is_host (slice_range full host.start host.end)))

scheme_is : (full : List ℕ) (scheme : Option Scheme) → IsAscii full → IfView IsView (with_scheme full scheme)
scheme_is full None ascii = tt
scheme_is full (Some scheme) ascii = host_is full scheme (host_span (without_fragment full)) ascii refl

url_is : (text : List ℕ) (read : Result Parts ParseError) → parse_url None text ≡ read → IfView IsView (view_of_url read)
url_is text (Ok url) is = scheme_is (serialize url) (scheme_named (scheme_part (serialize url))) (url_ascii text url is)
url_is text (Err e) is = tt

text_is : (text : List ℕ) → IfView IsView (view_of text)
text_is text =
    ⊎_elim (λ (long : nat_lt max_url (length text) ≡ true). rw long tt) (λ (short : nat_lt max_url (length text) ≡ false). rw short (url_is text (parse_url None text) refl))
    (cases_Bool (nat_lt max_url (length text)))

pub texts_give_views : TextsGiveViews
texts_give_views text view is = subst (IfView IsView) is (text_is text)
