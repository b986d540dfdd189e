-- A condition that asks less holds wherever the other holds.
use Rattle.std.proofs.Common.{◌≡◌, ℕ, ℤ, List, [], ◌∷◌, ◌++◌, Bool, true, false, not, ◌&&◌, ◌||◌, ◌==◌, ◌-◌, length, take, drop, Option, Some, None, ◌⊎◌, inl, inr, refl, sym, ap, ◌∙◌, subst, ⊎_elim, append_assoc}
use Rattle.std.specs.Prelude.{is_none, nat_eq, option_and_then}
use Rattle.std.specs.Cmp.Lexicographic.{pointwise}
use Rattle.std.specs.List.{list_all, list_any, ends_with}
use Rattle.std.specs.Option.{option_eq}
use Rattle.std.specs.Ordering.{int_eq}
use Rattle.std.specs.Str.{bytes_eq}
use Rattle.std.proofs.lemmas.Bool.{and_parts, and_from, or_cases, or_left, or_right, eqb-true, true≢false}
use Rattle.std.proofs.lemmas.Bool.Decides.{Decides-int_eq}
use Rattle.std.proofs.lemmas.Slice.Eq.{bytes_eq-Decides}
use Rattle.dnr_base.specs.declared.header.Header.{Header}
use Rattle.dnr_base.specs.declared.kind.Kind.{Kind}
use Rattle.dnr_base.specs.declared.method.Method.{Method}
use Rattle.dnr_base.specs.declared.scheme.Scheme.{Scheme}
use Rattle.dnr_base.specs.Kind.{has_kind, same_kind}
use Rattle.dnr_base.specs.Kind as kinds
use Rattle.dnr_base.specs.Method.{has_method, same_method}
use Rattle.dnr_base.specs.Method as methods
use Rattle.dnr_base.specs.Request.{Part}
use Rattle.dnr_base.specs.View.{View, IsView, text_of, host_of}
use Rattle.dnr_spec.specs.Domains.{covers, covers_some}
use Rattle.dnr_spec.specs.HeaderTests.{HeaderTest}
use Rattle.dnr_spec.specs.Party.{is_third_party}
use Rattle.dnr_spec.specs.Suffixes.{SuffixRule}
use Rattle.dnr_spec.specs.UrlFilter.{fits}
use Rattle.rule_spec.specs.Rule.{Condition}
use Rattle.rule_spec.specs.Holds.{fits_url, has_match, is_among, is_from, is_not_from, is_party, has_methods, is_by, is_not_by, has_tab, is_in, has_response, has_no_response, holds_on}
use Rattle.plain_domains.specs.PlainDomains.{plain_domain}
use Rattle.prune_spec.specs.Shadows.{same_answer, same_text, has_no_filter, has_same_url_filter, lies_under, has_wider_domain, has_same_regex_filter, has_weaker_filter, includes_domains, excludes_less_domains, asks_no_other_party, includes_kinds, includes_methods, excludes_less_methods, includes_tabs, excludes_less_tabs, same_test, has_no_tests, tests_no_others, asks_less}
use Rattle.compile_laws.proofs.Lists.{each_passes, each_in, any_in, any_out}
use Rattle.compile_laws.proofs.Covered.{Covered, reads_covers, is_covered, take_and_drop}
use Rattle.compile_laws.proofs.Plain.{IsPlain, then_some}
use Rattle.compile_laws.proofs.Fitting.{fits_view}
use Rattle.prune_laws.proofs.Domains.{has_domain, no_address}
use Rattle.prune_laws.proofs.Fold.{fits_folded}

-- ---- tests

both_more : (a b c d : Bool) → (a ≡ true → c ≡ true) → (b ≡ true → d ≡ true) → (a && b) ≡ true → (c && d) ≡ true
both_more a b c d f g h = let p = and_parts a b h in and_from c d (f p.0) (g p.1)

not_more : (a b : Bool) → (b ≡ true → a ≡ true) → not a ≡ true → not b ≡ true
not_more true b f h = cc
not_more false true f h = absurd (true≢false (sym (f refl)))
not_more false false f h = refl

pub same_answer_is : (a b : Bool) → same_answer a b ≡ true → a ≡ b
same_answer_is true true h = refl
same_answer_is true false h = cc
same_answer_is false true h = cc
same_answer_is false false h = refl

-- ---- lists that include others

-- where each of some elements is met by one of others, what is met by one of the first is met by one of the others
pub wider : {X : Type 0} (meets : X → X → Bool) → ((a b c : X) → meets a b ≡ true → meets b c ≡ true → meets a c ≡ true) → (big small : List X) (a : X)
    → list_all (λ b. list_any (meets b) big) small ≡ true → list_any (meets a) small ≡ true → list_any (meets a) big ≡ true
wider meets through big small a all h =
    let r = any_out (meets a) small h in
    let there = each_in (λ b. list_any (meets b) big ≡ true) r.0 small r.1 (each_passes (λ b. list_any (meets b) big) small all) in
    let q = any_out (meets r.0) big there in
    any_in (meets a) q.0 big q.1 (through a r.0 q.0 r.2 q.2)

pub covers_through : (host entry other : List ℕ) → covers entry host ≡ true → covers other entry ≡ true → covers other host ≡ true
covers_through host entry other h g = is_covered other host (by (reads_covers entry host h) (reads_covers other entry g))
  where
    by : Covered entry host → Covered other entry → Covered other host
    by (inl same) c = subst (Covered other) same c
    by (inr under) (inl same) = inr (under.0, under.1, under.2 ∙ ap (λ (e : List ℕ). under.0 ++ 46 ∷ e) (sym same))
    by (inr under) (inr over) = inr (under.0 ++ 46 ∷ over.0, under.1, under.2 ∙ ap (λ (e : List ℕ). under.0 ++ 46 ∷ e) over.2 ∙ sym (append_assoc under.0 (46 ∷ over.0) (46 ∷ other)))

covers_more : (big small : List (List ℕ)) (host : List ℕ) → list_all (covers_some big) small ≡ true → covers_some small host ≡ true → covers_some big host ≡ true
covers_more big small host all h = wider (λ host entry. covers entry host) (λ a b c. covers_through a b c) big small host all h

pub numbers_through : (x y z : ℕ) → (x == y) ≡ true → (y == z) ≡ true → (x == z) ≡ true
numbers_through x y z h g = ap (λ n. n == z) (eqb-true x y h) ∙ g

kinds_more : (big small : List Kind) (kind : Kind) → list_all (has_kind big) small ≡ true → has_kind small kind ≡ true → has_kind big kind ≡ true
kinds_more big small kind all h = wider same_kind (λ a b c. numbers_through (kinds.place_of a) (kinds.place_of b) (kinds.place_of c)) big small kind all h

methods_more : (big small : List Method) (method : Method) → list_all (has_method big) small ≡ true → has_method small method ≡ true → has_method big method ≡ true
methods_more big small method all h = wider same_method (λ a b c. numbers_through (methods.place_of a) (methods.place_of b) (methods.place_of c)) big small method all h

pub tabs_through : (a b c : ℤ) → int_eq a b ≡ true → int_eq b c ≡ true → int_eq a c ≡ true
tabs_through a b c h g = subst (λ (t : ℤ). int_eq t c ≡ true) (sym ((Decides-int_eq a b).0 h)) g

tabs_more : (big small : List ℤ) (tab : ℤ) → list_all (has_tab big) small ≡ true → has_tab small tab ≡ true → has_tab big tab ≡ true
tabs_more big small tab all h = wider int_eq tabs_through big small tab all h

-- ---- field by field

among_more : (k s : Option (List (List ℕ))) (host : List ℕ) → includes_domains k s ≡ true → is_among s host ≡ true → is_among k host ≡ true
among_more None s host w h = refl
among_more (Some k) None host w h = cc
among_more (Some k) (Some s) host w h = covers_more k s host w h

from_more : (k s : Option (List (List ℕ))) (initiator : Option (List ℕ)) → includes_domains k s ≡ true → is_from s initiator ≡ true → is_from k initiator ≡ true
from_more None s initiator w h = refl
from_more (Some k) None initiator w h = cc
from_more (Some k) (Some s) None w h = h
from_more (Some k) (Some s) (Some host) w h = covers_more k s host w h

not_from_more : (k s : List (List ℕ)) (initiator : Option (List ℕ)) → excludes_less_domains k s ≡ true → is_not_from s initiator ≡ true → is_not_from k initiator ≡ true
not_from_more k s None w h = refl
not_from_more k s (Some host) w h = not_more (covers_some s host) (covers_some k host) (covers_more s k host w) h

party_more : (k s : Option Bool) (third : Bool) → asks_no_other_party k s ≡ true → is_party s third ≡ true → is_party k third ≡ true
party_more None s third w h = refl
party_more (Some k) None third w h = cc
party_more (Some k) (Some s) third w h = subst (λ (b : Bool). is_party (Some b) third ≡ true) (sym (same_answer_is k s w)) h

by_more : (k s : Option (List Method)) (scheme : Scheme) (method : Method) → includes_methods k s ≡ true → is_by s scheme method ≡ true → is_by k scheme method ≡ true
by_more None s scheme method w h = refl
by_more (Some k) None scheme method w h = cc
by_more (Some k) (Some s) scheme method w h = both_more (has_methods scheme) (has_method s method) (has_methods scheme) (has_method k method) (λ e. e) (methods_more k s method w) h

not_by_more : (k s : List Method) (scheme : Scheme) (method : Method) → excludes_less_methods k s ≡ true → is_not_by s scheme method ≡ true → is_not_by k scheme method ≡ true
not_by_more k s scheme method w h =
    ⊎_elim (λ none. or_left (not (has_methods scheme)) _ none)
    (λ others. or_right (not (has_methods scheme)) _ (not_more (has_method s method) (has_method k method) (methods_more s k method w) others))
    (or_cases (not (has_methods scheme)) (not (has_method s method)) h)

in_more : (k s : Option (List ℤ)) (tab : ℤ) → includes_tabs k s ≡ true → is_in s tab ≡ true → is_in k tab ≡ true
in_more None s tab w h = refl
in_more (Some k) None tab w h = cc
in_more (Some k) (Some s) tab w h = tabs_more k s tab w h

-- ---- response headers

pub lists_equal : {X : Type 0} (same : X → X → Bool) → ((a b : X) → same a b ≡ true → a ≡ b) → (xs ys : List X) → pointwise same xs ys ≡ true → xs ≡ ys
lists_equal same is [] [] h = refl
lists_equal same is [] (y ∷ ys) h = cc
lists_equal same is (x ∷ xs) [] h = cc
lists_equal same is (x ∷ xs) (y ∷ ys) h =
    let p = and_parts (same x y) (pointwise same xs ys) h in
    let first = is x y p.0 in let rest = lists_equal same is xs ys p.1 in λ i. first i ∷ rest i

pub options_are : {X : Type 0} (same : X → X → Bool) → ((a b : X) → same a b ≡ true → a ≡ b) → (a b : Option X) → option_eq same a b ≡ true → a ≡ b
options_are same is None None h = refl
options_are same is None (Some b) h = cc
options_are same is (Some a) None h = cc
options_are same is (Some a) (Some b) h = ap Some (is a b h)

texts_are : (xs ys : List (List ℕ)) → pointwise bytes_eq xs ys ≡ true → xs ≡ ys
texts_are = lists_equal bytes_eq (λ a b h. (bytes_eq-Decides a b).0 h)

pub same_test_is : (a b : HeaderTest) → same_test a b ≡ true → a ≡ b
same_test_is a b h =
    let p = and_parts (bytes_eq a.name b.name && option_eq (pointwise bytes_eq) a.values b.values) (pointwise bytes_eq a.excluded b.excluded) h in
    let q = and_parts (bytes_eq a.name b.name) (option_eq (pointwise bytes_eq) a.values b.values) p.0 in
    let name = (bytes_eq-Decides a.name b.name).0 q.0 in
    let values = options_are (pointwise bytes_eq) texts_are a.values b.values q.1 in
    let excluded = texts_are a.excluded b.excluded p.1 in
    λ i. record { name = name i; values = values i; excluded = excluded i }

no_tests_hold : (tests : Option (List HeaderTest)) (others : List HeaderTest) (headers : Option (List Header)) → has_no_tests tests others ≡ true → (has_response tests headers ≡ true) × (has_no_response others headers ≡ true)
no_tests_hold None [] headers h = (refl, refl)
no_tests_hold None (test ∷ tests) headers h = cc
no_tests_hold (Some tests) others headers h = cc

tests_more : (k s : Condition) (headers : Option (List Header)) → tests_no_others k s ≡ true
    → (has_response s.header_tests headers ≡ true → has_response k.header_tests headers ≡ true)
    × (has_no_response s.not_header_tests headers ≡ true → has_no_response k.not_header_tests headers ≡ true)
tests_more k s headers w =
    ⊎_elim
    (λ none. let p = no_tests_hold k.header_tests k.not_header_tests headers none in (λ _. p.0, λ _. p.1))
    (λ same.
    let p = and_parts (option_eq (pointwise same_test) k.header_tests s.header_tests) (pointwise same_test k.not_header_tests s.not_header_tests) same in
    let tests = options_are (pointwise same_test) (lists_equal same_test same_test_is) k.header_tests s.header_tests p.0 in
    let others = lists_equal same_test same_test_is k.not_header_tests s.not_header_tests p.1 in
    (λ h. ap (λ t. has_response t headers) tests ∙ h, λ h. ap (λ t. has_no_response t headers) others ∙ h))
    (or_cases (has_no_tests k.header_tests k.not_header_tests) _ w)

-- ---- filters

pub record Fits (plain pattern : Option (List ℕ)) (fold : Bool) (view : View) : Type 0 where
  pub url : fits_url plain fold view ≡ true
  pub regex : has_match pattern fold view ≡ true

pub none_there : (a : Option (List ℕ)) → is_none a ≡ true → a ≡ None
none_there None h = refl
none_there (Some x) h = cc

pub texts_same : (a b : Option (List ℕ)) → same_text a b ≡ true → (x : List ℕ) × (a ≡ Some x) × (b ≡ Some x)
texts_same None b h = cc
texts_same (Some x) None h = cc
texts_same (Some x) (Some y) h = (x, refl, ap Some (sym ((bytes_eq-Decides x y).0 h)))

-- a condition has one filter at most
second_none : (a b : Option (List ℕ)) (x : List ℕ) → a ≡ Some x → (is_none a || is_none b) ≡ true → b ≡ None
second_none a b x e h = none_there b (sym (ap (λ o. is_none o || is_none b) e) ∙ h)

first_none : (a b : Option (List ℕ)) (x : List ℕ) → b ≡ Some x → (is_none a || is_none b) ≡ true → a ≡ None
first_none None b x e h = refl
first_none (Some y) b x e h = absurd (true≢false (sym h ∙ ap is_none e))

folds_more : (k s : Bool) → (not k || s) ≡ true → (not k ≡ true) ⊎ (k ≡ s)
folds_more false s h = inl refl
folds_more true true h = inr refl
folds_more true false h = cc

module _ (view : View) (is : IsView view) where
  no_filter : (ku kr : Option (List ℕ)) (fold : Bool) → (is_none ku && is_none kr) ≡ true → Fits ku kr fold view
  no_filter ku kr fold h =
      let p = and_parts (is_none ku) (is_none kr) h in
      record { url = ap (λ o. fits_url o fold view) (none_there ku p.0); regex = ap (λ o. has_match o fold view) (none_there kr p.1) }

  same_url : (ku kr su : Option (List ℕ)) (kc sc : Bool) → (is_none ku || is_none kr) ≡ true → (same_text ku su && (not kc || sc)) ≡ true → fits_url su (not sc) view ≡ true → Fits ku kr (not kc) view
  same_url ku kr su kc sc one w h =
      let p = and_parts (same_text ku su) (not kc || sc) w in
      let t = texts_same ku su p.0 in
      let fit : fits t.0 (text_of view) view.host (not sc) ≡ true = sym (ap (λ o. fits_url o (not sc) view) t.2) ∙ h in
      let wide : fits t.0 (text_of view) view.host (not kc) ≡ true = ⊎_elim
      (λ (folds : not kc ≡ true). ap (fits t.0 (text_of view) view.host) folds ∙ fits_folded t.0 (text_of view) view.host (not sc) fit)
      (λ (same : kc ≡ sc). ap (λ b. fits t.0 (text_of view) view.host (not b)) same ∙ fit)
      (folds_more kc sc p.1) in
      record { url = ap (λ o. fits_url o (not kc) view) t.1 ∙ wide; regex = ap (λ o. has_match o (not kc) view) (second_none ku kr t.0 t.1 one) }

  same_regex : (ku kr sr : Option (List ℕ)) (kc sc : Bool) → (is_none ku || is_none kr) ≡ true → (same_text kr sr && same_answer kc sc) ≡ true → has_match sr (not sc) view ≡ true → Fits ku kr (not kc) view
  same_regex ku kr sr kc sc one w h =
      let p = and_parts (same_text kr sr) (same_answer kc sc) w in
      let t = texts_same kr sr p.0 in
      let cased = same_answer_is kc sc p.1 in
      record {
        url = ap (λ o. fits_url o (not kc) view) (first_none ku kr t.0 t.1 one);
        regex = (λ i. has_match ((t.1 ∙ sym t.2) i) (not (cased i)) view) ∙ h;
      }

  under_covers : (domain under : List ℕ) → IsPlain domain → IsPlain under → (bytes_eq domain under || ends_with nat_eq under (46 ∷ domain)) ≡ true → covers domain under ≡ true
  under_covers domain under d u h =
      ⊎_elim
      (λ same. or_left (bytes_eq domain under) _ same)
      (λ ends.
      let n = length under - length (46 ∷ domain) in
      let end = (bytes_eq-Decides (46 ∷ domain) (drop n under)).0 ends in
      let cut = take_and_drop n under ∙ ap (λ (rest : List ℕ). take n under ++ rest) (sym end) in
      is_covered domain under (inr (take n under, no_address under u, cut)))
      (or_cases (bytes_eq domain under) (ends_with nat_eq under (46 ∷ domain)) h)

  domains_there : (k s : Option (List ℕ)) → lies_under k s ≡ true → (d : List ℕ) × (u : List ℕ) × (k ≡ Some d) × (s ≡ Some u) × ((bytes_eq d u || ends_with nat_eq u (46 ∷ d)) ≡ true)
  domains_there None s h = cc
  domains_there (Some d) None h = cc
  domains_there (Some d) (Some u) h = (d, u, refl, refl, h)

  wider_domain : (ku kr su : Option (List ℕ)) (kc sc : Bool) → (is_none ku || is_none kr) ≡ true → lies_under (option_and_then plain_domain ku) (option_and_then plain_domain su) ≡ true
      → fits_url su (not sc) view ≡ true → Fits ku kr (not kc) view
  wider_domain ku kr su kc sc one w h =
      let t = domains_there (option_and_then plain_domain ku) (option_and_then plain_domain su) w in
      let a = then_some plain_domain ku t.0 t.2 in
      let b = then_some plain_domain su t.1 t.3 in
      let k = has_domain a.0 t.0 a.2 in
      let s = has_domain b.0 t.1 b.2 in
      let fit : covers t.1 (host_of view) ≡ true = sym (fits_view view is t.1 s.plain (not sc)) ∙ ap (λ p. fits p (text_of view) view.host (not sc)) (sym s.is) ∙ sym (ap (λ o. fits_url o (not sc) view) b.1) ∙ h in
      let wide : covers t.0 (host_of view) ≡ true = covers_through (host_of view) t.1 t.0 fit (under_covers t.0 t.1 k.plain s.plain t.4) in
      record {
        url = ap (λ o. fits_url o (not kc) view) a.1 ∙ ap (λ p. fits p (text_of view) view.host (not kc)) k.is ∙ fits_view view is t.0 k.plain (not kc) ∙ wide;
        regex = ap (λ o. has_match o (not kc) view) (second_none ku kr a.0 a.1 one);
      }

  filter_more : (k s : Condition) → (is_none k.url_filter || is_none k.regex_filter) ≡ true → has_weaker_filter k s ≡ true
      → fits_url s.url_filter (not s.case_sensitive) view ≡ true → has_match s.regex_filter (not s.case_sensitive) view ≡ true → Fits k.url_filter k.regex_filter (not k.case_sensitive) view
  filter_more k s one w u r =
      ⊎_elim
      (λ three. ⊎_elim
      (λ two. ⊎_elim
      (λ none. no_filter k.url_filter k.regex_filter (not k.case_sensitive) none)
      (λ same. same_url k.url_filter k.regex_filter s.url_filter k.case_sensitive s.case_sensitive one same u)
      (or_cases (has_no_filter k) (has_same_url_filter k s) two))
      (λ domain. wider_domain k.url_filter k.regex_filter s.url_filter k.case_sensitive s.case_sensitive one domain u)
      (or_cases (has_no_filter k || has_same_url_filter k s) (has_wider_domain k s) three))
      (λ regex. same_regex k.url_filter k.regex_filter s.regex_filter k.case_sensitive s.case_sensitive one regex r)
      (or_cases (has_no_filter k || has_same_url_filter k s || has_wider_domain k s) (has_same_regex_filter k s) w)

-- ---- the whole

-- what each field of a condition that asks less says
pub record AsksLess (k s : Condition) : Type 0 where
  pub filter : has_weaker_filter k s ≡ true
  pub initiators : includes_domains k.initiators s.initiators ≡ true
  pub not_initiators : excludes_less_domains k.not_initiators s.not_initiators ≡ true
  pub hosts : includes_domains k.hosts s.hosts ≡ true
  pub not_hosts : excludes_less_domains k.not_hosts s.not_hosts ≡ true
  pub third_party : asks_no_other_party k.third_party s.third_party ≡ true
  pub kinds : includes_kinds k.kinds s.kinds ≡ true
  pub methods : includes_methods k.methods s.methods ≡ true
  pub not_methods : excludes_less_methods k.not_methods s.not_methods ≡ true
  pub tabs : includes_tabs k.tabs s.tabs ≡ true
  pub not_tabs : excludes_less_tabs k.not_tabs s.not_tabs ≡ true
  pub tests : tests_no_others k s ≡ true

pub asked_less : (k s : Condition) → asks_less k s ≡ true → AsksLess k s
asked_less k s h =
    let a = and_parts _ (tests_no_others k s) h in
    let b = and_parts _ (excludes_less_tabs k.not_tabs s.not_tabs) a.0 in
    let c = and_parts _ (includes_tabs k.tabs s.tabs) b.0 in
    let d = and_parts _ (excludes_less_methods k.not_methods s.not_methods) c.0 in
    let e = and_parts _ (includes_methods k.methods s.methods) d.0 in
    let f = and_parts _ (includes_kinds k.kinds s.kinds) e.0 in
    let g = and_parts _ (asks_no_other_party k.third_party s.third_party) f.0 in
    let l = and_parts _ (excludes_less_domains k.not_hosts s.not_hosts) g.0 in
    let m = and_parts _ (includes_domains k.hosts s.hosts) l.0 in
    let n = and_parts _ (excludes_less_domains k.not_initiators s.not_initiators) m.0 in
    let o = and_parts (has_weaker_filter k s) (includes_domains k.initiators s.initiators) n.0 in
    record {
      filter = o.0;
      initiators = o.1;
      not_initiators = n.1;
      hosts = m.1;
      not_hosts = l.1;
      third_party = g.1;
      kinds = f.1;
      methods = e.1;
      not_methods = d.1;
      tabs = c.1;
      not_tabs = b.1;
      tests = a.1;
    }

-- what each field of a condition that holds says
pub record HoldsOn (suffixes : List SuffixRule) (c : Condition) (part : Part) : Type 0 where
  pub kinds : has_kind c.kinds part.kind ≡ true
  pub methods : is_by c.methods part.view.scheme part.method ≡ true
  pub not_methods : is_not_by c.not_methods part.view.scheme part.method ≡ true
  pub tabs : is_in c.tabs part.tab ≡ true
  pub not_tabs : not (has_tab c.not_tabs part.tab) ≡ true
  pub hosts : is_among c.hosts (host_of part.view) ≡ true
  pub not_hosts : not (covers_some c.not_hosts (host_of part.view)) ≡ true
  pub url : fits_url c.url_filter (not c.case_sensitive) part.view ≡ true
  pub initiators : is_from c.initiators part.initiator ≡ true
  pub not_initiators : is_not_from c.not_initiators part.initiator ≡ true
  pub third_party : is_party c.third_party (is_third_party suffixes (host_of part.view) part.initiator) ≡ true
  pub tests : has_response c.header_tests part.response_headers ≡ true
  pub not_tests : has_no_response c.not_header_tests part.response_headers ≡ true
  pub regex : has_match c.regex_filter (not c.case_sensitive) part.view ≡ true

module _ (suffixes : List SuffixRule) (part : Part) where
  fields_of : (c : Condition) → holds_on suffixes c part ≡ true → HoldsOn suffixes c part
  fields_of c h =
      let a = and_parts _ (has_match c.regex_filter (not c.case_sensitive) part.view) h in
      let b = and_parts _ (has_no_response c.not_header_tests part.response_headers) a.0 in
      let d = and_parts _ (has_response c.header_tests part.response_headers) b.0 in
      let e = and_parts _ (is_party c.third_party (is_third_party suffixes (host_of part.view) part.initiator)) d.0 in
      let f = and_parts _ (is_not_from c.not_initiators part.initiator) e.0 in
      let g = and_parts _ (is_from c.initiators part.initiator) f.0 in
      let l = and_parts _ (fits_url c.url_filter (not c.case_sensitive) part.view) g.0 in
      let m = and_parts _ (not (covers_some c.not_hosts (host_of part.view))) l.0 in
      let n = and_parts _ (is_among c.hosts (host_of part.view)) m.0 in
      let o = and_parts _ (not (has_tab c.not_tabs part.tab)) n.0 in
      let p = and_parts _ (is_in c.tabs part.tab) o.0 in
      let q = and_parts _ (is_not_by c.not_methods part.view.scheme part.method) p.0 in
      let r = and_parts (has_kind c.kinds part.kind) (is_by c.methods part.view.scheme part.method) q.0 in
      record {
        kinds = r.0;
        methods = r.1;
        not_methods = q.1;
        tabs = p.1;
        not_tabs = o.1;
        hosts = n.1;
        not_hosts = m.1;
        url = l.1;
        initiators = g.1;
        not_initiators = f.1;
        third_party = e.1;
        tests = d.1;
        not_tests = b.1;
        regex = a.1;
      }

  from_fields : (c : Condition) → HoldsOn suffixes c part → holds_on suffixes c part ≡ true
  from_fields c h =
      and_from _ _ (and_from _ _ (and_from _ _ (and_from _ _ (and_from _ _ (and_from _ _ (and_from _ _ (and_from _ _ (and_from _ _ (and_from _ _ (and_from _ _ (and_from _ _
      (and_from _ _ h.kinds h.methods) h.not_methods) h.tabs) h.not_tabs) h.hosts) h.not_hosts) h.url) h.initiators) h.not_initiators) h.third_party) h.tests) h.not_tests) h.regex

  pub holds_wider : IsView part.view → (k s : Condition) → (is_none k.url_filter || is_none k.regex_filter) ≡ true → asks_less k s ≡ true → holds_on suffixes s part ≡ true → holds_on suffixes k part ≡ true
  holds_wider view k s one w h =
      let a = asked_less k s w in
      let f = fields_of s h in
      let filter = filter_more part.view view k s one a.filter f.url f.regex in
      let tests = tests_more k s part.response_headers a.tests in
      from_fields k (record {
        kinds = kinds_more k.kinds s.kinds part.kind a.kinds f.kinds;
        methods = by_more k.methods s.methods part.view.scheme part.method a.methods f.methods;
        not_methods = not_by_more k.not_methods s.not_methods part.view.scheme part.method a.not_methods f.not_methods;
        tabs = in_more k.tabs s.tabs part.tab a.tabs f.tabs;
        not_tabs = not_more (has_tab s.not_tabs part.tab) (has_tab k.not_tabs part.tab) (tabs_more s.not_tabs k.not_tabs part.tab a.not_tabs) f.not_tabs;
        hosts = among_more k.hosts s.hosts (host_of part.view) a.hosts f.hosts;
        not_hosts = not_more (covers_some s.not_hosts (host_of part.view)) (covers_some k.not_hosts (host_of part.view)) (covers_more s.not_hosts k.not_hosts (host_of part.view) a.not_hosts) f.not_hosts;
        url = filter.url;
        initiators = from_more k.initiators s.initiators part.initiator a.initiators f.initiators;
        not_initiators = not_from_more k.not_initiators s.not_initiators part.initiator a.not_initiators f.not_initiators;
        third_party = party_more k.third_party s.third_party (is_third_party suffixes (host_of part.view) part.initiator) a.third_party f.third_party;
        tests = tests.0 f.tests;
        not_tests = tests.1 f.not_tests;
        regex = filter.regex;
      })
