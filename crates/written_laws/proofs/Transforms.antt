-- Written redirects are read as they are.
use Rattle.std.proofs.Common.{◌≡◌, ℕ, ◌+◌, ◌≤◌, List, [], ◌∷◌, length, map, Bool, true, false, cond, ◌&&◌, ◌||◌, Option, Some, None, Ok, refl, sym, ap, ◌∙◌, subst, arith}
use Rattle.std.specs.Prelude.{IfSome, IsTrue, codes, nat_le, is_some, is_none, option_map, option_and_then}
use Rattle.std.specs.List.{AllByRecursion, list_all}
use Rattle.std.specs.Str.{str_to_ascii_lowercase}
use Rattle.std.proofs.lemmas.Bool.Decides.{nat_tests}
use Rattle.serde_json.specs.Data.{Data, string}
use Rattle.serde_json.specs.Find.{get, as_object}
use Rattle.dnr_base.specs.declared.scheme.Scheme.{Scheme}
use Rattle.dnr_base.specs.declared.scheme.Scheme.TheVariants as scheme
use Rattle.dnr_base.specs.declared.redirect.Redirect.{Redirect}
use Rattle.dnr_base.specs.declared.redirect.Redirect.TheVariants as redirect
use Rattle.dnr_base.specs.declared.transform.Transform.{Transform}
use Rattle.dnr_base.specs.declared.query_transform.QueryTransform.{QueryTransform}
use Rattle.dnr_base.specs.declared.query_pair.QueryPair.{QueryPair}
use Rattle.rule_spec.specs.declared.rule_refusal.RuleRefusal.TheVariants.{BadTransform}
use Rattle.rule_spec.specs.Redirects.{is_short, is_short_pair, is_new_host, is_new_port, is_new_path, is_new_query, is_new_fragment, is_new_scheme, is_extension_path, is_redirect_url, is_substitution, max_entries, IsPart, IsKeptHost, AreChanges, IsTransform, IsRedirect}
use Rattle.json_spec.specs.RuleFields.{list_of, first_refusal, refused_if, refusal_in, unless_refused}
use Rattle.json_spec.specs.RuleAction.{tested_text, short_text, as_new_scheme, list_from, flag_from, pair_from, as_pair, changes_from, as_changes, given_part, part_from, part_in, part_of, transform_in, extension_in, url_in, substitution_in, or_bad_redirect, transformed_by, redirect_of}
use Rattle.json_spec.specs.Written.{written_list, unless_empty, if_true, pair_written, changes_written, scheme_written, transform_written, redirect_written}
use Rattle.written_laws.proofs.Objects.{found}
use Rattle.written_laws.proofs.Sets.{both}
use Rattle.written_laws.proofs.Values.{pair_fields, changes_fields, transform_fields}
use Rattle.written_laws.proofs.Fields.{each_read}
use Rattle.written_laws.proofs.Domains.{host_again, lower_case-lower_case}

-- ---- texts

and_true : (b : Bool) → (b && true) ≡ b
and_true true = refl
and_true false = refl

text-read : (test : List ℕ → Bool) (text : List ℕ) → (is_short text && test text) ≡ true → tested_text test (string text) ≡ Some text
text-read test text h = ap (λ b. cond b (Some text) None) h

short-read : (text : List ℕ) → is_short text ≡ true → short_text (string text) ≡ Some text
short-read text h = text-read (λ text. true) text (and_true (is_short text) ∙ h)

-- ---- the changes of a query

pub list_from-read : {X : Type 0} (form : X → Data) (reading : Data → Option X) (list : List X) → list_of reading (written_list form list) ≡ Some list → list_from reading (unless_empty (map form list)) ≡ Some list
list_from-read form reading [] h = refl
list_from-read form reading (x ∷ xs) h = h

flag-read : (flag : Bool) → flag_from (if_true flag) ≡ Some flag
flag-read true = refl
flag-read false = refl

pair-read : (pair : QueryPair) → is_short_pair pair ≡ true → as_pair (pair_written pair) ≡ Some pair
pair-read pair h =
    let p = both (is_short pair.key) (is_short pair.value) h in
    let key = ap (option_and_then short_text) (found (codes "key") (pair_fields pair) (Some (string pair.key)) refl) ∙ short-read pair.key p.0 in
    let value = ap (option_and_then short_text) (found (codes "value") (pair_fields pair) (Some (string pair.value)) refl) ∙ short-read pair.value p.1 in
    let only = ap flag_from (found (codes "replaceOnly") (pair_fields pair) (if_true pair.replace_only) refl) ∙ flag-read pair.replace_only in
    λ i. pair_from (key i) (value i) (only i)

each-passes : {X : Type 0} (form : X → Data) (reading : Data → Option X) (test : X → Bool) → ((x : X) → test x ≡ true → reading (form x) ≡ Some x) → (list : List X) → list_all test list ≡ true
    → AllByRecursion (λ x. reading (form x) ≡ Some x) list
each-passes form reading test p [] h = tt
each-passes form reading test p (x ∷ xs) h = let q = both (test x) (list_all test xs) h in (p x q.0, each-passes form reading test p xs q.1)

tested-read : {X : Type 0} (form : X → Data) (reading : Data → Option X) (test : X → Bool) → ((x : X) → test x ≡ true → reading (form x) ≡ Some x) → (list : List X) → list_all test list ≡ true
    → list_from reading (unless_empty (map form list)) ≡ Some list
tested-read form reading test p list h = list_from-read form reading list (each_read form reading list (each-passes form reading test p list h))

few-passes : (n : ℕ) → n ≤ max_entries → nat_le n max_entries ≡ true
few-passes n h = grind (arith, nat_tests)

changes-read : (changes : QueryTransform) → AreChanges changes → as_changes (changes_written changes) ≡ Some changes
changes-read changes are =
    let remove = ap (list_from short_text) (found (codes "removeParams") (changes_fields changes) (unless_empty (map string changes.remove)) refl)
    ∙ tested-read string short_text is_short short-read changes.remove are.keys in
    let add = ap (list_from as_pair) (found (codes "addOrReplaceParams") (changes_fields changes) (unless_empty (map pair_written changes.add)) refl)
    ∙ tested-read pair_written as_pair is_short_pair pair-read changes.add are.pairs in
    (λ i. changes_from (remove i) (add i)) ∙ ap (λ b. cond b (Some changes) None) (few-passes (length changes.remove + length changes.add) are.few)

-- ---- the parts of a transform

part-read : {X : Type 0} (reading : Data → Option X) (form : X → Data) (o : Option X) → IfSome o (λ x. reading (form x) ≡ Some x) → part_from reading (option_map form o) ≡ Ok o
part-read reading form None h = refl
part-read reading form (Some x) h = ap given_part h

part_at : {X : Type 0} (reading : Data → Option X) (key : List ℕ) (t : Transform) (form : X → Data) (o : Option X) → get key (transform_written t) ≡ option_map form o → IfSome o (λ x. reading (form x) ≡ Some x)
    → part_in reading key (transform_written t) ≡ Ok o
unfolding part_in
part_at reading key t form o is h = ap (part_from reading) is ∙ part-read reading form o h

if_some : {X : Type 0} (P Q : X → Type 0) (o : Option X) → ((x : X) → P x → Q x) → IfSome o P → IfSome o Q
if_some P Q None f h = tt
if_some P Q (Some x) f h = f x h

scheme-read : (s : Scheme) → IsTrue (is_new_scheme s) → as_new_scheme (scheme_written s) ≡ Some s
scheme-read scheme.Http h = refl
scheme-read scheme.Https h = refl
scheme-read scheme.Ws h = cc
scheme-read scheme.Wss h = cc
scheme-read scheme.Ftp h = refl
scheme-read scheme.ChromeExtension h = refl

host-read : (host : List ℕ) → IsKeptHost host → tested_text is_new_host (string host) ≡ Some host
host-read host (text, passes, is) = text-read is_new_host host (subst (λ h. (is_short h && is_new_host h) ≡ true) (sym is) (host_again text passes))

host-low : (o : Option (List ℕ)) → IfSome o IsKeptHost → option_map str_to_ascii_lowercase o ≡ o
host-low None h = refl
host-low (Some host) (text, passes, is) = ap Some (ap str_to_ascii_lowercase is ∙ lower_case-lower_case text ∙ sym is)

tested-part : (test : List ℕ → Bool) (key : List ℕ) (t : Transform) (o : Option (List ℕ)) → get key (transform_written t) ≡ option_map string o → IsPart test o
    → part_in (tested_text test) key (transform_written t) ≡ Ok o
tested-part test key t o is h =
    part_at (tested_text test) key t string o is
    (if_some (λ text. IsTrue (is_short text && test text)) (λ text. tested_text test (string text) ≡ Some text) o (text-read test) h)

one_given : {X Y : Type 0} (a : Option X) (b : Option Y) (f : X → Data) (g : Y → Data) → (is_none a || is_none b) ≡ true → (is_some (option_map f a) && is_some (option_map g b)) ≡ false
one_given None b f g h = refl
one_given (Some x) None f g h = refl
one_given (Some x) (Some y) f g h = cc

module _ (t : Transform) where
  at-scheme : get (codes "scheme") (transform_written t) ≡ option_map scheme_written t.scheme
  unfolding transform_written
  at-scheme = found (codes "scheme") (transform_fields t) (option_map scheme_written t.scheme) refl

  at-host : get (codes "host") (transform_written t) ≡ option_map string t.host
  unfolding transform_written
  at-host = found (codes "host") (transform_fields t) (option_map string t.host) refl

  at-port : get (codes "port") (transform_written t) ≡ option_map string t.port
  unfolding transform_written
  at-port = found (codes "port") (transform_fields t) (option_map string t.port) refl

  at-path : get (codes "path") (transform_written t) ≡ option_map string t.path
  unfolding transform_written
  at-path = found (codes "path") (transform_fields t) (option_map string t.path) refl

  at-query : get (codes "query") (transform_written t) ≡ option_map string t.query
  unfolding transform_written
  at-query = found (codes "query") (transform_fields t) (option_map string t.query) refl

  at-changes : get (codes "queryTransform") (transform_written t) ≡ option_map changes_written t.query_transform
  unfolding transform_written
  at-changes = found (codes "queryTransform") (transform_fields t) (option_map changes_written t.query_transform) refl

  at-fragment : get (codes "fragment") (transform_written t) ≡ option_map string t.fragment
  unfolding transform_written
  at-fragment = found (codes "fragment") (transform_fields t) (option_map string t.fragment) refl

  at-username : get (codes "username") (transform_written t) ≡ option_map string t.username
  unfolding transform_written
  at-username = found (codes "username") (transform_fields t) (option_map string t.username) refl

  at-password : get (codes "password") (transform_written t) ≡ option_map string t.password
  unfolding transform_written
  at-password = found (codes "password") (transform_fields t) (option_map string t.password) refl

  is-object : is_none (as_object (transform_written t)) ≡ false
  unfolding transform_written
  is-object = refl

  -- a written transform is read as it is
  pub transform_read : IsTransform t → transform_in (transform_written t) ≡ Ok t
  unfolding transform_in
  transform_read is =
      let scheme = part_at as_new_scheme (codes "scheme") t scheme_written t.scheme at-scheme
      (if_some (λ s. IsTrue (is_new_scheme s)) (λ s. as_new_scheme (scheme_written s) ≡ Some s) t.scheme scheme-read is.scheme) in
      let host = part_at (tested_text is_new_host) (codes "host") t string t.host at-host
      (if_some IsKeptHost (λ text. tested_text is_new_host (string text) ≡ Some text) t.host host-read is.host) in
      let port = tested-part is_new_port (codes "port") t t.port at-port is.port in
      let path = tested-part is_new_path (codes "path") t t.path at-path is.path in
      let query = tested-part is_new_query (codes "query") t t.query at-query is.query in
      let changes = part_at as_changes (codes "queryTransform") t changes_written t.query_transform at-changes
      (if_some AreChanges (λ changes. as_changes (changes_written changes) ≡ Some changes) t.query_transform changes-read is.changes) in
      let one_query = (λ i. is_some (at-query i) && is_some (at-changes i)) ∙ one_given t.query t.query_transform string changes_written is.one_query in
      let fragment = tested-part is_new_fragment (codes "fragment") t t.fragment at-fragment is.fragment in
      let username = tested-part (λ text. true) (codes "username") t t.username at-username is.username in
      let password = tested-part (λ text. true) (codes "password") t t.password at-password is.password in
      (λ i. unless_refused (first_refusal (
      refused_if (is-object i) BadTransform
      ∷ refusal_in (scheme i)
      ∷ refusal_in (host i)
      ∷ refusal_in (port i)
      ∷ refusal_in (path i)
      ∷ refusal_in (query i)
      ∷ refusal_in (changes i)
      ∷ refused_if (one_query i) BadTransform
      ∷ refusal_in (fragment i)
      ∷ refusal_in (username i)
      ∷ refusal_in (password i)
      ∷ []
      )) (record {
        scheme = part_of (scheme i);
        host = option_map str_to_ascii_lowercase (part_of (host i));
        port = part_of (port i);
        path = part_of (path i);
        query = part_of (query i);
        query_transform = part_of (changes i);
        fragment = part_of (fragment i);
        username = part_of (username i);
        password = part_of (password i);
      }))
      ∙ (λ i. Ok (record {
        scheme = t.scheme;
        host = host-low t.host is.host i;
        port = t.port;
        path = t.path;
        query = t.query;
        query_transform = t.query_transform;
        fragment = t.fragment;
        username = t.username;
        password = t.password;
      }))

-- ---- redirects

extension-read : (path : List ℕ) → (is_short path && is_extension_path path) ≡ true → extension_in (string path) ≡ Ok (redirect.ExtensionPath path)
unfolding extension_in
extension-read path h = ap (λ o. or_bad_redirect (option_map redirect.ExtensionPath o)) (text-read is_extension_path path h)

url-read : (url : List ℕ) → is_redirect_url url ≡ true → url_in (string url) ≡ Ok (redirect.Url url)
unfolding url_in
url-read url h = ap (λ b. or_bad_redirect (option_map redirect.Url (cond b (Some url) None))) h

substitution-read : (groups : Option ℕ) (text : List ℕ) → is_substitution groups text ≡ true → substitution_in groups (string text) ≡ Ok (redirect.RegexSubstitution text)
unfolding substitution_in
substitution-read groups text h = ap (λ b. or_bad_redirect (option_map redirect.RegexSubstitution (cond b (Some text) None))) h

-- a written redirect is read as it is
pub redirect_read : (groups : Option ℕ) (target : Redirect) → IsRedirect groups target → redirect_of groups (redirect_written target) ≡ Ok target
redirect_read groups (redirect.ExtensionPath path) is = extension-read path is
redirect_read groups (redirect.Transform t) is = ap transformed_by (transform_read t is)
redirect_read groups (redirect.Url url) is = url-read url is
redirect_read groups (redirect.RegexSubstitution text) is = substitution-read groups text is
