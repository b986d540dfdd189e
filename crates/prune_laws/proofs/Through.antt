-- What shadows a rule that shadows another shadows that one too.
use Rattle.std.proofs.Common.{◌≡◌, ℕ, ℤ, ◌-◌, List, ◌∷◌, ◌++◌, length, take, drop, Bool, true, false, not, ◌&&◌, ◌||◌, ◌==◌, Option, Some, None, refl, sym, ap, ◌∙◌, ⊎_elim, append_assoc, arith}
use Rattle.std.specs.Prelude.{is_none, nat_le, nat_eq, option_and_then}
use Rattle.std.specs.Cmp.Lexicographic.{pointwise}
use Rattle.std.specs.List.{list_all, list_any, ends_with}
use Rattle.std.specs.Ordering.{int_eq}
use Rattle.std.specs.Option.{option_eq}
use Rattle.std.specs.Str.{bytes_eq}
use Rattle.std.proofs.lemmas.Bool.{and_parts, and_from, or_cases, or_left, or_right, true≢false, le-leb, not_from_false}
use Rattle.std.proofs.lemmas.Slice.Eq.{bytes_eq-Decides}
use Rattle.dnr_base.specs.declared.kind.Kind.{Kind}
use Rattle.dnr_base.specs.declared.method.Method.{Method}
use Rattle.dnr_base.specs.Kind.{has_kind, same_kind}
use Rattle.dnr_base.specs.Kind as kinds
use Rattle.dnr_base.specs.Method.{has_method, same_method}
use Rattle.dnr_base.specs.Method as methods
use Rattle.dnr_spec.specs.Domains.{covers, covers_some}
use Rattle.dnr_spec.specs.HeaderTests.{HeaderTest}
use Rattle.rule_spec.specs.Rule.{Condition, Rule}
use Rattle.rule_spec.specs.IsRule.{IsRule}
use Rattle.rule_spec.specs.Holds.{has_tab}
use Rattle.plain_domains.specs.PlainDomains.{plain_domain}
use Rattle.prune_spec.specs.Shadows.{same_answer, same_text, has_no_filter, has_same_url_filter, filter_domain, lies_under, has_wider_domain, has_same_regex_filter, has_weaker_filter, includes_domains, asks_no_other_party, includes_methods, includes_tabs, same_test, has_no_tests, tests_no_others, asks_less, same_safe_action, shadows}
use Rattle.compile_laws.proofs.Lists.{each_passes, all_pass, each_weaker}
use Rattle.compile_laws.proofs.Covered.{take_and_drop}
use Rattle.prune_laws.proofs.Domains.{ends_so}
use Rattle.prune_laws.proofs.Wider.{wider, covers_through, numbers_through, tabs_through, same_answer_is, texts_same, options_are, lists_equal, same_test_is, AsksLess, asked_less}
use Rattle.prune_laws.proofs.Shadowed.{shadowing}

-- ---- lists

wider_all : {X : Type 0} (meets : X → X → Bool) → ((a b c : X) → meets a b ≡ true → meets b c ≡ true → meets a c ≡ true) → (big mid small : List X)
    → list_all (λ b. list_any (meets b) big) mid ≡ true → list_all (λ a. list_any (meets a) mid) small ≡ true → list_all (λ a. list_any (meets a) big) small ≡ true
wider_all meets through big mid small h g =
    all_pass (λ a. list_any (meets a) big) small
    (each_weaker (λ a. list_any (meets a) mid ≡ true) (λ a. list_any (meets a) big ≡ true) (λ a met. wider meets through big mid a h met) small (each_passes (λ a. list_any (meets a) mid) small g))

domains_through : (big mid small : List (List ℕ)) → list_all (covers_some big) mid ≡ true → list_all (covers_some mid) small ≡ true → list_all (covers_some big) small ≡ true
domains_through big mid small h g = wider_all (λ host entry. covers entry host) (λ a b c. covers_through a b c) big mid small h g

kinds_through : (big mid small : List Kind) → list_all (has_kind big) mid ≡ true → list_all (has_kind mid) small ≡ true → list_all (has_kind big) small ≡ true
kinds_through big mid small h g = wider_all same_kind (λ a b c. numbers_through (kinds.place_of a) (kinds.place_of b) (kinds.place_of c)) big mid small h g

methods_through : (big mid small : List Method) → list_all (has_method big) mid ≡ true → list_all (has_method mid) small ≡ true → list_all (has_method big) small ≡ true
methods_through big mid small h g = wider_all same_method (λ a b c. numbers_through (methods.place_of a) (methods.place_of b) (methods.place_of c)) big mid small h g

tab_lists_through : (big mid small : List ℤ) → list_all (has_tab big) mid ≡ true → list_all (has_tab mid) small ≡ true → list_all (has_tab big) small ≡ true
tab_lists_through big mid small h g = wider_all int_eq tabs_through big mid small h g

includes_domains_through : (k m s : Option (List (List ℕ))) → includes_domains k m ≡ true → includes_domains m s ≡ true → includes_domains k s ≡ true
includes_domains_through None m s h g = refl
includes_domains_through (Some k) None s h g = cc
includes_domains_through (Some k) (Some m) None h g = cc
includes_domains_through (Some k) (Some m) (Some s) h g = domains_through k m s h g

includes_methods_through : (k m s : Option (List Method)) → includes_methods k m ≡ true → includes_methods m s ≡ true → includes_methods k s ≡ true
includes_methods_through None m s h g = refl
includes_methods_through (Some k) None s h g = cc
includes_methods_through (Some k) (Some m) None h g = cc
includes_methods_through (Some k) (Some m) (Some s) h g = methods_through k m s h g

includes_tabs_through : (k m s : Option (List ℤ)) → includes_tabs k m ≡ true → includes_tabs m s ≡ true → includes_tabs k s ≡ true
includes_tabs_through None m s h g = refl
includes_tabs_through (Some k) None s h g = cc
includes_tabs_through (Some k) (Some m) None h g = cc
includes_tabs_through (Some k) (Some m) (Some s) h g = tab_lists_through k m s h g

party_through : (k m s : Option Bool) → asks_no_other_party k m ≡ true → asks_no_other_party m s ≡ true → asks_no_other_party k s ≡ true
party_through None m s h g = refl
party_through (Some k) None s h g = cc
party_through (Some k) (Some m) None h g = cc
party_through (Some k) (Some m) (Some s) h g = ap (λ b. same_answer b s) (same_answer_is k m h) ∙ g

-- ---- response headers

abbrev tests_by : Option (List HeaderTest) → List HeaderTest → Condition → Bool
tests_by tests others s = has_no_tests tests others || (option_eq (pointwise same_test) tests s.header_tests && pointwise same_test others s.not_header_tests)

tests_through : (k m s : Condition) → tests_no_others k m ≡ true → tests_no_others m s ≡ true → tests_no_others k s ≡ true
tests_through k m s h g =
    ⊎_elim
    (λ none. or_left (has_no_tests k.header_tests k.not_header_tests) _ none)
    (λ same.
    let p = and_parts (option_eq (pointwise same_test) k.header_tests m.header_tests) (pointwise same_test k.not_header_tests m.not_header_tests) same in
    let tests = options_are (pointwise same_test) (lists_equal same_test same_test_is) k.header_tests m.header_tests p.0 in
    let others = lists_equal same_test same_test_is k.not_header_tests m.not_header_tests p.1 in
    (λ i. tests_by (tests i) (others i) s) ∙ g)
    (or_cases (has_no_tests k.header_tests k.not_header_tests) _ h)

-- ---- filters

ends_parts : (text end : List ℕ) → ends_with nat_eq text end ≡ true → (front : List ℕ) × (text ≡ front ++ end)
ends_parts text end h =
    let n = length text - length end in
    (take n text, take_and_drop n text ∙ ap (λ (rest : List ℕ). take n text ++ rest) (sym ((bytes_eq-Decides end (drop n text)).0 h)))

under_through : (k m s : Option (List ℕ)) → lies_under k m ≡ true → lies_under m s ≡ true → lies_under k s ≡ true
under_through None m s h g = cc
under_through (Some k) None s h g = cc
under_through (Some k) (Some m) None h g = cc
under_through (Some k) (Some m) (Some s) h g =
    ⊎_elim
    (λ same. ap (λ d. lies_under (Some d) (Some s)) ((bytes_eq-Decides k m).0 same) ∙ g)
    (λ under. ⊎_elim
    (λ same. ap (λ u. lies_under (Some k) (Some u)) (sym ((bytes_eq-Decides m s).0 same)) ∙ h)
    (λ over.
    let a = ends_parts m (46 ∷ k) under in
    let b = ends_parts s (46 ∷ m) over in
    or_right (bytes_eq k s) (ends_with nat_eq s (46 ∷ k))
    (ends_so k s (b.0 ++ 46 ∷ a.0) (b.1 ∙ ap (λ (e : List ℕ). b.0 ++ 46 ∷ e) a.1 ∙ sym (append_assoc b.0 (46 ∷ a.0) (46 ∷ k)))))
    (or_cases (bytes_eq m s) (ends_with nat_eq s (46 ∷ m)) g))
    (or_cases (bytes_eq k m) (ends_with nat_eq m (46 ∷ k)) h)

case_through : (k m s : Bool) → (not k || m) ≡ true → (not m || s) ≡ true → (not k || s) ≡ true
case_through false m s h g = refl
case_through true true s h g = g
case_through true false s h g = cc

-- what makes a filter weaker
pub data Weaker (k s : Condition) : Type 0 where
  nothing : has_no_filter k ≡ true → Weaker k s
  url : has_same_url_filter k s ≡ true → Weaker k s
  domain : has_wider_domain k s ≡ true → Weaker k s
  regex : has_same_regex_filter k s ≡ true → Weaker k s

weaker_by : (k s : Condition) → has_weaker_filter k s ≡ true → Weaker k s
weaker_by k s w =
    ⊎_elim
    (λ three. ⊎_elim
    (λ two. ⊎_elim (λ h. nothing h) (λ h. url h) (or_cases (has_no_filter k) (has_same_url_filter k s) two))
    (λ h. domain h)
    (or_cases (has_no_filter k || has_same_url_filter k s) (has_wider_domain k s) three))
    (λ h. regex h)
    (or_cases (has_no_filter k || has_same_url_filter k s || has_wider_domain k s) (has_same_regex_filter k s) w)

by_weaker : (k s : Condition) → Weaker k s → has_weaker_filter k s ≡ true
by_weaker k s (nothing h) = or_left (has_no_filter k || has_same_url_filter k s || has_wider_domain k s) _ (or_left (has_no_filter k || has_same_url_filter k s) _ (or_left (has_no_filter k) _ h))
by_weaker k s (url h) = or_left (has_no_filter k || has_same_url_filter k s || has_wider_domain k s) _ (or_left (has_no_filter k || has_same_url_filter k s) _ (or_right (has_no_filter k) _ h))
by_weaker k s (domain h) = or_left (has_no_filter k || has_same_url_filter k s || has_wider_domain k s) _ (or_right (has_no_filter k || has_same_url_filter k s) _ h)
by_weaker k s (regex h) = or_right (has_no_filter k || has_same_url_filter k s || has_wider_domain k s) _ h

some_apart : (o : Option (List ℕ)) (x : List ℕ) → o ≡ Some x → is_none o ≡ true → ⊥
some_apart o x e h = true≢false (sym h ∙ ap is_none e)

both_apart : (a b : Option (List ℕ)) (x y : List ℕ) → (is_none a || is_none b) ≡ true → a ≡ Some x → b ≡ Some y → ⊥
both_apart a b x y one e f = ⊎_elim (λ h. some_apart a x e h) (λ h. some_apart b y f h) (or_cases (is_none a) (is_none b) one)

under_some : (k m : Option (List ℕ)) → lies_under (option_and_then plain_domain k) (option_and_then plain_domain m) ≡ true → (x : List ℕ) × (y : List ℕ) × (k ≡ Some x) × (m ≡ Some y)
under_some None m h = cc
under_some (Some k) None h = absurd (never (plain_domain k) h)
  where
    never : (o : Option (List ℕ)) → lies_under o None ≡ true → ⊥
    never None e = true≢false (sym e)
    never (Some d) e = true≢false (sym e)
under_some (Some k) (Some m) h = (k, m, refl, refl)

weaker_through : (k m s : Condition) → (is_none m.url_filter || is_none m.regex_filter) ≡ true → Weaker k m → Weaker m s → Weaker k s
weaker_through k m s one (nothing h) w = nothing h
weaker_through k m s one (url h) (nothing g) =
    let a = texts_same k.url_filter m.url_filter (and_parts (same_text k.url_filter m.url_filter) _ h).0 in
    absurd (some_apart m.url_filter a.0 a.2 (and_parts (is_none m.url_filter) (is_none m.regex_filter) g).0)
weaker_through k m s one (url h) (url g) =
    let p = and_parts (same_text k.url_filter m.url_filter) (not k.case_sensitive || m.case_sensitive) h in
    let q = and_parts (same_text m.url_filter s.url_filter) (not m.case_sensitive || s.case_sensitive) g in
    let a = texts_same k.url_filter m.url_filter p.0 in
    url (and_from (same_text k.url_filter s.url_filter) (not k.case_sensitive || s.case_sensitive) (ap (λ t. same_text t s.url_filter) (a.1 ∙ sym a.2) ∙ q.0) (case_through k.case_sensitive m.case_sensitive s.case_sensitive p.1 q.1))
weaker_through k m s one (url h) (domain g) =
    let a = texts_same k.url_filter m.url_filter (and_parts (same_text k.url_filter m.url_filter) _ h).0 in
    domain (ap (λ t. lies_under (option_and_then plain_domain t) (filter_domain s)) (a.1 ∙ sym a.2) ∙ g)
weaker_through k m s one (url h) (regex g) =
    let a = texts_same k.url_filter m.url_filter (and_parts (same_text k.url_filter m.url_filter) _ h).0 in
    let b = texts_same m.regex_filter s.regex_filter (and_parts (same_text m.regex_filter s.regex_filter) _ g).0 in
    absurd (both_apart m.url_filter m.regex_filter a.0 b.0 one a.2 b.1)
weaker_through k m s one (domain h) (nothing g) =
    let a = under_some k.url_filter m.url_filter h in
    absurd (some_apart m.url_filter a.1 a.3 (and_parts (is_none m.url_filter) (is_none m.regex_filter) g).0)
weaker_through k m s one (domain h) (url g) =
    let b = texts_same m.url_filter s.url_filter (and_parts (same_text m.url_filter s.url_filter) _ g).0 in
    domain (ap (λ t. lies_under (filter_domain k) (option_and_then plain_domain t)) (b.2 ∙ sym b.1) ∙ h)
weaker_through k m s one (domain h) (domain g) = domain (under_through (filter_domain k) (filter_domain m) (filter_domain s) h g)
weaker_through k m s one (domain h) (regex g) =
    let a = under_some k.url_filter m.url_filter h in
    let b = texts_same m.regex_filter s.regex_filter (and_parts (same_text m.regex_filter s.regex_filter) _ g).0 in
    absurd (both_apart m.url_filter m.regex_filter a.1 b.0 one a.3 b.1)
weaker_through k m s one (regex h) (nothing g) =
    let a = texts_same k.regex_filter m.regex_filter (and_parts (same_text k.regex_filter m.regex_filter) _ h).0 in
    absurd (some_apart m.regex_filter a.0 a.2 (and_parts (is_none m.url_filter) (is_none m.regex_filter) g).1)
weaker_through k m s one (regex h) (url g) =
    let a = texts_same k.regex_filter m.regex_filter (and_parts (same_text k.regex_filter m.regex_filter) _ h).0 in
    let b = texts_same m.url_filter s.url_filter (and_parts (same_text m.url_filter s.url_filter) _ g).0 in
    absurd (both_apart m.url_filter m.regex_filter b.0 a.0 one b.1 a.2)
weaker_through k m s one (regex h) (domain g) =
    let a = texts_same k.regex_filter m.regex_filter (and_parts (same_text k.regex_filter m.regex_filter) _ h).0 in
    let b = under_some m.url_filter s.url_filter g in
    absurd (both_apart m.url_filter m.regex_filter b.0 a.0 one b.2 a.2)
weaker_through k m s one (regex h) (regex g) =
    let p = and_parts (same_text k.regex_filter m.regex_filter) (same_answer k.case_sensitive m.case_sensitive) h in
    let q = and_parts (same_text m.regex_filter s.regex_filter) (same_answer m.case_sensitive s.case_sensitive) g in
    let a = texts_same k.regex_filter m.regex_filter p.0 in
    regex (and_from (same_text k.regex_filter s.regex_filter) (same_answer k.case_sensitive s.case_sensitive)
    (ap (λ t. same_text t s.regex_filter) (a.1 ∙ sym a.2) ∙ q.0) (ap (λ b. same_answer b s.case_sensitive) (same_answer_is k.case_sensitive m.case_sensitive p.1) ∙ q.1))

-- ---- the whole

from_asked : (k s : Condition) → AsksLess k s → asks_less k s ≡ true
from_asked k s h =
    and_from _ _ (and_from _ _ (and_from _ _ (and_from _ _ (and_from _ _ (and_from _ _ (and_from _ _ (and_from _ _ (and_from _ _ (and_from _ _
    (and_from _ _ h.filter h.initiators) h.not_initiators) h.hosts) h.not_hosts) h.third_party) h.kinds) h.methods) h.not_methods) h.tabs) h.not_tabs) h.tests

less_through : (k m s : Condition) → (is_none m.url_filter || is_none m.regex_filter) ≡ true → asks_less k m ≡ true → asks_less m s ≡ true → asks_less k s ≡ true
less_through k m s one h g =
    let a = asked_less k m h in
    let b = asked_less m s g in
    from_asked k s (record {
      filter = by_weaker k s (weaker_through k m s one (weaker_by k m a.filter) (weaker_by m s b.filter));
      initiators = includes_domains_through k.initiators m.initiators s.initiators a.initiators b.initiators;
      not_initiators = domains_through s.not_initiators m.not_initiators k.not_initiators b.not_initiators a.not_initiators;
      hosts = includes_domains_through k.hosts m.hosts s.hosts a.hosts b.hosts;
      not_hosts = domains_through s.not_hosts m.not_hosts k.not_hosts b.not_hosts a.not_hosts;
      third_party = party_through k.third_party m.third_party s.third_party a.third_party b.third_party;
      kinds = kinds_through k.kinds m.kinds s.kinds a.kinds b.kinds;
      methods = includes_methods_through k.methods m.methods s.methods a.methods b.methods;
      not_methods = methods_through s.not_methods m.not_methods k.not_methods b.not_methods a.not_methods;
      tabs = includes_tabs_through k.tabs m.tabs s.tabs a.tabs b.tabs;
      not_tabs = tab_lists_through s.not_tabs m.not_tabs k.not_tabs b.not_tabs a.not_tabs;
      tests = tests_through k m s a.tests b.tests;
    })

pub shadows_through : (k m s : Rule) → IsRule m → (k.id == s.id) ≡ false → shadows k m ≡ true → shadows m s ≡ true → shadows k s ≡ true
shadows_through k m s rule apart h g =
    let a = shadowing k m h in
    let b = shadowing m s g in
    let p = and_parts _ (asks_less m.condition s.condition) g in
    let q = and_parts _ (nat_le s.priority m.priority) p.0 in
    let r = and_parts (not (m.id == s.id)) (same_safe_action m.action s.action) q.0 in
    and_from _ _ (and_from _ _ (and_from _ _ (not_from_false (k.id == s.id) apart)
    (ap (λ x. same_safe_action x s.action) a.action ∙ r.1))
    (le-leb s.priority k.priority (let x = a.priority in let y = b.priority in omega (arith, x, y))))
    (less_through k.condition m.condition s.condition rule.condition.one_filter a.less b.less)
