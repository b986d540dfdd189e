-- A plain text is read as the URL that it shows.
use Rattle.std.proofs.Common.{◌≡◌, ℕ, ◌+◌, ◌<◌, ◌≤◌, Bool, true, ◌&&◌, leb, ◌⊎◌, inl, List, [], ◌∷◌, ◌++◌, length, get_or, Some, None, All, sym, refl, ap, ◌∙◌, subst, ⊎_elim, append-nil, arith, length-append, le-ltb}
use Rattle.std.specs.Prelude.{Ok, IfSome, is_some, unwrap_or, codes}
use Rattle.std.specs.List.{list_all}
use Rattle.std.proofs.lemmas.Bool.{cond-false, or_left}
use Rattle.std.proofs.lemmas.Bool.Decides.{nat_tests}
use Rattle.std.proofs.lemmas.List.Elements.{All-nil}
use Rattle.percent_encoding.specs.Percent.{IsKept}
use Rattle.url.specs.declared.sets.TheConstants.{USERINFO}
use Rattle.url.specs.declared.host.Host.TheVariants.{Domain}
use Rattle.url.specs.declared.slicing.Position.TheVariants.{BeforeHost, AfterHost, AfterQuery}
use Rattle.url.specs.declared.scheme.SchemeType.TheVariants.{SpecialNotFile}
use Rattle.url.specs.Input.{when}
use Rattle.url.specs.Host.{IsHostOf}
use Rattle.url.specs.Parser.{parse_url}
use Rattle.url.specs.Parts.{Parts, serialize, offset, query_set, IsHierarchicalPath, IsValid}
use Rattle.url.proofs.Theorems.{parse_url-serialize_special}
use Rattle.dnr_base.specs.declared.scheme.Scheme.{Scheme}
use Rattle.dnr_base.specs.declared.span.Span.{Span}
use Rattle.dnr_base.specs.Scheme.{scheme_text}
use Rattle.dnr_base.specs.View.{View, IsView, is_host, is_name_byte}
use Rattle.dnr_spec.specs.UrlView.{max_url, view_of, view_of_url}
use Rattle.url_view.proofs.UrlViews.{own_host_text, own_view, given_view, own_view_is_view}
use Rattle.url_view.specs.Plain.{IsPlain, is_fragment, query_len}
use Rattle.url_view.proofs.PlainHosts.{is_domain, host_is_long, is_scheme, is_special_scheme, is_named_scheme}
use Rattle.url_view.proofs.PlainPaths.{is_segment_list, without_mark, query_kept, query_marked, fragment_kept, fragment_marked}

abbrev parts : Scheme → List ℕ → List ℕ → List ℕ → List ℕ → Parts
parts scheme host path query fragment = record {
  scheme = scheme_text scheme;
  username = [];
  password = [];
  host = Some (Domain host);
  port = None;
  path = path;
  query = without_mark query;
  fragment = without_mark fragment;
}

abbrev pub shown : {text : List ℕ} {cut : ℕ} {scheme : Scheme} {span : Span}
    → IsPlain text cut scheme span → Parts
shown {text} {cut} {scheme} {span} plain =
    parts scheme plain.host plain.path plain.query plain.fragment

-- a mark and what it marks
marked : (mark : ℕ) (xs rest : List ℕ) → (xs ≡ []) ⊎ (get_or xs 0 0 ≡ mark)
    → when (is_some (without_mark xs)) (mark ∷ []) ++ (unwrap_or (without_mark xs) [] ++ rest) ≡ xs ++ rest
marked mark [] rest first = refl
marked mark (b ∷ xs) rest first =
    ⊎_elim (λ none. absurd (let no = ap length none in omega arith)) (λ e. ap (λ c. c ∷ (xs ++ rest)) (sym e)) first

spelled : (scheme : Scheme) (host path query fragment : List ℕ) → query_len query ≡ length query
    → is_fragment fragment ≡ true
    → serialize (parts scheme host path query fragment) ≡ scheme_text scheme ++ (codes "://" ++ (host ++ (path ++ (query ++ fragment))))
spelled scheme host path query fragment q f =
    let last = marked 35 fragment [] (fragment_marked fragment f) ∙ append-nil fragment in
    let both = marked 63 query _ (query_marked query q) ∙ ap (λ l. query ++ l) last in
    ap (λ l. scheme_text scheme ++ (codes "://" ++ (host ++ (path ++ l)))) both

shown_is_valid : {text : List ℕ} {cut : ℕ} {scheme : Scheme} {span : Span}
    → (plain : IsPlain text cut scheme span) → IsValid (shown plain)
shown_is_valid {text} {cut} {scheme} {span} plain =
    let kind = is_special_scheme scheme plain.web in
    let long = host_is_long plain.host plain.named in
    let host : IsHostOf SpecialNotFile (Domain plain.host)
    = (is_domain plain.host plain.name plain.named, long) in
    let list = is_segment_list plain.path plain.whole_path plain.rooted in
    let path : IsHierarchicalPath SpecialNotFile plain.path
    = (list, λ _. nonempty plain.path plain.rooted) in
    record {
      head = record {
        scheme = is_scheme scheme plain.web;
        username = All-nil (IsKept USERINFO);
        password = All-nil (IsKept USERINFO);
        host = subst (λ k. IsHostOf k (Domain plain.host)) (sym kind) host;
        port = tt;
        bare = λ _. (refl, refl, refl);
      };
      path = inl (subst (λ k. IsHierarchicalPath k plain.path) (sym kind) path);
      query = subst (λ k. IfSome (without_mark plain.query) (All (IsKept (query_set k)))) (sym kind) (query_kept plain.query plain.whole_query);
      fragment = fragment_kept plain.fragment plain.whole_fragment;
    }
  where
    nonempty : (path : List ℕ) → get_or path 0 0 ≡ 47 → 0 < length path
    nonempty [] rooted = absurd (omega arith)
    nonempty (b ∷ path) rooted = omega arith

its_text : {text : List ℕ} {cut : ℕ} {scheme : Scheme} {span : Span}
    → (plain : IsPlain text cut scheme span) → serialize (shown plain) ≡ text
its_text {text} {cut} {scheme} {span} plain =
    spelled scheme plain.host plain.path plain.query plain.fragment plain.whole_query plain.whole_fragment
    ∙ sym plain.spelled

-- the URL Standard reads a plain text as the URL that it shows
pub parse_url-plain : {text : List ℕ} {cut : ℕ} {scheme : Scheme} {span : Span}
    → (plain : IsPlain text cut scheme span) → parse_url None text ≡ Ok (shown plain)
parse_url-plain {text} {cut} {scheme} {span} plain =
    ap (parse_url None) (sym (its_text plain))
    ∙ parse_url-serialize_special (shown plain) None (shown_is_valid plain) (is_special_scheme scheme plain.web)

abbrev pub seen : List ℕ → ℕ → Scheme → Span → View
seen text cut scheme span = record { full = text; cut = cut; scheme = scheme; host = span }

le_and : (n : ℕ) (test : Bool) → 0 < n → test ≡ true → (leb 1 n && test) ≡ true
le_and n test long e = grind (arith, nat_tests)

its_host : {text : List ℕ} {cut : ℕ} {scheme : Scheme} {span : Span}
    → (plain : IsPlain text cut scheme span) → is_host (own_host_text (shown plain)) ≡ true
its_host {text} {cut} {scheme} {span} plain =
    ap is_host (append-nil plain.host)
    ∙ or_left _ _ (le_and (length plain.host) (list_all is_name_byte plain.host) (host_is_long plain.host plain.named) plain.name)

cut_is : (scheme host path query fragment : List ℕ) {cut : ℕ} {middle : List ℕ}
    → middle ≡ query ++ []
    → cut + length fragment ≡ length (scheme ++ (codes "://" ++ (host ++ (path ++ (query ++ fragment)))))
    → length (scheme ++ (codes "://" ++ (host ++ (path ++ middle)))) ≡ cut
cut_is scheme host path query fragment {cut} {middle} m e =
    let long = simp length-append at e in
    let short = simp append-nil at m in
    rw short (simp length-append (omega arith))

end_is : (scheme host : List ℕ) {start end : ℕ} → start ≡ length scheme + 3
    → end ≡ start + length host → length (scheme ++ (codes "://" ++ (host ++ []))) ≡ end
end_is scheme host s e = simp (append-nil, length-append) (omega arith)

its_view : {text : List ℕ} {cut : ℕ} {scheme : Scheme} {span : Span}
    → (plain : IsPlain text cut scheme span)
    → own_view (shown plain) scheme ≡ seen text cut scheme span
its_view {text} {cut} {scheme} {span} plain =
    let url = shown plain in
    let starts : offset url BeforeHost ≡ span.start
    = length-append (scheme_text scheme) (codes "://")
    ∙ sym plain.start in
    let ends : offset url AfterHost ≡ span.end
    = end_is (scheme_text scheme) plain.host plain.start plain.end in
    let cuts : offset url AfterQuery ≡ cut
    = cut_is (scheme_text scheme) plain.host plain.path plain.query plain.fragment (marked 63 plain.query [] (query_marked plain.query plain.whole_query)) (plain.end_of_query ∙ ap length plain.spelled) in
    let t = its_text plain in
    λ i. record { full = t i; cut = cuts i; scheme = scheme; host = record { start = starts i; end = ends i } }

pub plain_is_view : {text : List ℕ} {cut : ℕ} {scheme : Scheme} {span : Span}
    → (plain : IsPlain text cut scheme span) → IsView (seen text cut scheme span)
plain_is_view {text} {cut} {scheme} {span} plain =
    subst IsView (its_view plain) (own_view_is_view (shown plain) (shown_is_valid plain) scheme (its_host plain))

-- the law: the view of a plain text is read off its bytes
pub view_of-plain : {text : List ℕ} {cut : ℕ} {scheme : Scheme} {span : Span}
    → IsPlain text cut scheme span → length text ≤ max_url
    → view_of text ≡ Ok (seen text cut scheme span)
view_of-plain {text} {cut} {scheme} {span} plain short =
    let url = shown plain in
    let same = its_text plain in
    let fits : length (serialize url) ≤ max_url
    = subst (λ t. length t ≤ max_url) (sym same) short in
    cond-false _ _ _ (le-ltb max_url (length text) short)
    ∙ ap view_of_url (parse_url-plain plain)
    ∙ sym (given_view url (shown_is_valid plain) scheme (is_named_scheme scheme) (its_host plain) fits)
    ∙ ap Ok (its_view plain)
