-- Plain domains, and texts in ascending order.
use Rattle.std.proofs.Common.{◌≡◌, ℕ, ◌-◌, List, [], ◌∷◌, ◌++◌, length, take, drop, Bool, true, false, cond, ◌&&◌, Option, Some, None, ◌⊎◌, inl, inr, refl, sym, ap, ◌∙◌, subst, ⊎_elim, arith}
use Rattle.std.specs.Prelude.{codes, fold, nat_eq, option_and_then}
use Rattle.std.specs.BTreeSet.{insert_key}
use Rattle.std.specs.Char.{to_ascii_lowercase}
use Rattle.std.specs.Cmp.Lexicographic.{slice_cmp}
use Rattle.std.specs.List.{list_all, starts_with, ends_with, AllByRecursion}
use Rattle.std.specs.Ordering.{is_eq, match_ordering, nat_cmp}
use Rattle.std.specs.declared.cmp.Ordering.{Ordering}
use Rattle.std.specs.declared.cmp.Ordering.TheVariants.{Less, Equal, Greater}
use Rattle.std.proofs.lemmas.Bool.{and_parts}
use Rattle.std.proofs.lemmas.Bool.Decides.{nat_tests}
use Rattle.std.proofs.lemmas.Map.Text.{is_eq-slice_cmp}
use Rattle.std.proofs.lemmas.Slice.Eq.{bytes_eq-Decides}
use Rattle.dnr_base.specs.View.{is_name_byte}
use Rattle.dnr_spec.specs.Hosts.{labels_of}
use Rattle.dnr_spec.specs.Domains.{is_domain, lower_case}
use Rattle.list_spec.specs.LineKind.{FilterPattern, every_url, plain, regex}
use Rattle.plain_domains.specs.PlainDomains.{ends_in_letters, is_plain_domain, behind_bars, before_caret, if_plain}
use Rattle.compile_spec.specs.Alike.{plain_domain, ascending}
use Rattle.compile_laws.proofs.Lists.{Has, in_each, each_in}
use Rattle.compile_laws.proofs.Covered.{take_and_drop}

-- ---- plain domains

pub record IsPlain (text : List ℕ) : Type 0 where
  pub bytes : list_all is_name_byte text ≡ true
  pub domain : is_domain text ≡ true
  pub letters : ends_in_letters (labels_of text) ≡ true

is_plain : (domain : List ℕ) → is_plain_domain domain ≡ true → IsPlain domain
is_plain domain h =
    let a = and_parts (list_all is_name_byte domain && is_domain domain) (ends_in_letters (labels_of domain)) h in
    let b = and_parts (list_all is_name_byte domain) (is_domain domain) a.0 in
    record { bytes = b.0; domain = b.1; letters = a.1 }

pub byte_lower : (b : ℕ) → is_name_byte b ≡ true → to_ascii_lowercase b ≡ b
byte_lower b h = grind (arith, nat_tests, h)

pub plain_lower : (domain : List ℕ) → list_all is_name_byte domain ≡ true → lower_case domain ≡ domain
plain_lower [] h = refl
plain_lower (b ∷ domain) h = let p = and_parts (is_name_byte b) (list_all is_name_byte domain) h in λ i. byte_lower b p.0 i ∷ plain_lower domain p.1 i

-- the pattern of a plain domain
pub record HasDomain (pattern : FilterPattern) (domain : List ℕ) : Type 0 where
  pub is : pattern ≡ plain (codes "||" ++ domain ++ codes "^")
  pub plain : IsPlain domain

kept_if : (b : Bool) (x domain : List ℕ) → cond b (Some x) None ≡ Some domain → (b ≡ true) × (x ≡ domain)
kept_if true x domain h = (refl, cc)
kept_if false x domain h = cc

pub then_some : (f : List ℕ → Option (List ℕ)) (o : Option (List ℕ)) (domain : List ℕ) → option_and_then f o ≡ Some domain → (x : List ℕ) × (o ≡ Some x) × (f x ≡ Some domain)
then_some f None domain h = cc
then_some f (Some x) domain h = (x, refl, h)

pub has_domain : (pattern : FilterPattern) (domain : List ℕ) → plain_domain pattern ≡ Some domain → HasDomain pattern domain
has_domain every_url domain h = cc
has_domain (regex text) domain h = cc
has_domain (plain text) domain h =
    let a = then_some if_plain (option_and_then before_caret (behind_bars text)) domain h in
    let b = then_some before_caret (behind_bars text) a.0 a.1 in
    let named = kept_if (is_plain_domain a.0) a.0 domain a.2 in
    let ended = kept_if (ends_with nat_eq b.0 (codes "^")) (take (length b.0 - 1) b.0) a.0 b.2 in
    let begun = kept_if (starts_with nat_eq text (codes "||")) (drop 2 text) b.0 b.1 in
    let front : codes "||" ≡ take 2 text = (bytes_eq-Decides (codes "||") (take 2 text)).0 begun.0 in
    let end : codes "^" ≡ drop (length b.0 - 1) b.0 = (bytes_eq-Decides (codes "^") (drop (length b.0 - 1) b.0)).0 ended.0 in
    let rest : b.0 ≡ domain ++ codes "^" = take_and_drop (length b.0 - 1) b.0 ∙ (λ i. (ended.1 ∙ named.1) i ++ sym end i) in
    record {
      is = ap plain (take_and_drop 2 text ∙ (λ i. sym front i ++ (begun.1 ∙ rest) i));
      plain = subst IsPlain named.1 (is_plain a.0 named.0);
    }

-- ---- ascending order

equal_texts : (one other : List ℕ) → slice_cmp nat_cmp one other ≡ Equal → one ≡ other
equal_texts one other h = (bytes_eq-Decides one other).0 (sym (is_eq-slice_cmp one other) ∙ ap is_eq h)

module _ (P : List ℕ → Type 0) where
  placed_in : (text x : List ℕ) (xs rest : List (List ℕ)) (o : Ordering) → slice_cmp nat_cmp text x ≡ o → (P text ⊎ Has P xs → Has P rest) → P text ⊎ (P x ⊎ Has P xs)
      → Has P (match_ordering o (text ∷ x ∷ xs) (x ∷ xs) (x ∷ rest))
  placed_in text x xs rest Less e f h = h
  placed_in text x xs rest Equal e f (inl p) = inl (subst P (equal_texts text x e) p)
  placed_in text x xs rest Equal e f (inr h) = h
  placed_in text x xs rest Greater e f (inl p) = inr (f (inl p))
  placed_in text x xs rest Greater e f (inr (inl p)) = inl p
  placed_in text x xs rest Greater e f (inr (inr h)) = inr (f (inr h))

  has_inserted : (text : List ℕ) (xs : List (List ℕ)) → P text ⊎ Has P xs → Has P (insert_key (slice_cmp nat_cmp) xs text)
  has_inserted text [] h = h
  has_inserted text (x ∷ xs) h = placed_in text x xs (insert_key (slice_cmp nat_cmp) xs text) (slice_cmp nat_cmp text x) refl (has_inserted text xs) h

  placed_out : (text x : List ℕ) (xs rest : List (List ℕ)) (o : Ordering) → (Has P rest → P text ⊎ Has P xs)
      → Has P (match_ordering o (text ∷ x ∷ xs) (x ∷ xs) (x ∷ rest)) → P text ⊎ (P x ⊎ Has P xs)
  placed_out text x xs rest Less f h = h
  placed_out text x xs rest Equal f h = inr h
  placed_out text x xs rest Greater f (inl p) = inr (inl p)
  placed_out text x xs rest Greater f (inr h) = ⊎_elim (λ p. inl p) (λ q. inr (inr q)) (f h)

  was_inserted : (text : List ℕ) (xs : List (List ℕ)) → Has P (insert_key (slice_cmp nat_cmp) xs text) → P text ⊎ Has P xs
  was_inserted text [] h = h
  was_inserted text (x ∷ xs) h = placed_out text x xs (insert_key (slice_cmp nat_cmp) xs text) (slice_cmp nat_cmp text x) (was_inserted text xs) h

  has_folded : (kept xs : List (List ℕ)) → Has P kept ⊎ Has P xs → Has P (fold (insert_key (slice_cmp nat_cmp)) kept xs)
  has_folded kept [] (inl h) = h
  has_folded kept [] (inr h) = absurd h
  has_folded kept (x ∷ xs) (inl h) = has_folded (insert_key (slice_cmp nat_cmp) kept x) xs (inl (has_inserted x kept (inr h)))
  has_folded kept (x ∷ xs) (inr (inl h)) = has_folded (insert_key (slice_cmp nat_cmp) kept x) xs (inl (has_inserted x kept (inl h)))
  has_folded kept (x ∷ xs) (inr (inr h)) = has_folded (insert_key (slice_cmp nat_cmp) kept x) xs (inr h)

  had_folded : (kept xs : List (List ℕ)) → Has P (fold (insert_key (slice_cmp nat_cmp)) kept xs) → Has P kept ⊎ Has P xs
  had_folded kept [] h = inl h
  had_folded kept (x ∷ xs) h =
      ⊎_elim (λ p. ⊎_elim (λ q. inr (inl q)) (λ q. inl q) (was_inserted x kept p)) (λ q. inr (inr q)) (had_folded (insert_key (slice_cmp nat_cmp) kept x) xs h)

  -- the texts in ascending order are the same texts
  pub has_ascending : (xs : List (List ℕ)) → Has P xs → Has P (ascending xs)
  has_ascending xs h = has_folded [] xs (inr h)

  pub had_ascending : (xs : List (List ℕ)) → Has P (ascending xs) → Has P xs
  had_ascending xs h = ⊎_elim (λ none. absurd none) (λ q. q) (had_folded [] xs h)

pub each_ascending : (P : List ℕ → Type 0) (xs : List (List ℕ)) → AllByRecursion P xs → AllByRecursion P (ascending xs)
each_ascending P xs h = in_each P (ascending xs) (λ x i. each_in P x xs (had_ascending (λ y. y ≡ x) xs i) h)
