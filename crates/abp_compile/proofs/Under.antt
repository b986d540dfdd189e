-- Domains that lie under others.
use Rattle.std.proofs.Common.{◌≡◌, ℕ, ◌-◌, List, [], ◌∷◌, length, drop, Bool, true, false, not, ◌||◌, ◌&&◌, ◌==◌, refl, sym, ap, ◌∙◌, arith, subst, length-drop}
use Rattle.std.specs.Prelude.{nat_eq}
use Rattle.std.specs.List.{ends_with}
use Rattle.std.specs.Str.{bytes_eq}
use Rattle.std.specs.Cmp.Lexicographic.{same_text, unequal, nat_list_eq_equiv}
use Rattle.dnr_spec.specs.Hosts.{is_ip_host}
use Rattle.domain_set.specs.Rests.{some_rest}
use Rattle.std.specs.Prelude.{String}
use Rattle.std.specs.BTreeSet.{BTreeSet, contains_text}
use Rattle.std.specs.declared.alloc.Global.{Global}
use Rattle.domain_set.specs.Table.{has_text}
use Rattle.domain_set.proofs.Ends.{ends_with-dot, some_rest-same}
use Rattle.compile_spec.specs.Initiators.{lies_under, lies_under_some}
use Rattle.abp_compile.specs.Domains.{HasTexts}

-- no text ends with a dot and itself
never : (text : List ℕ) → ends_with nat_eq text (46 ∷ text) ≡ false
never text = unequal nat_eq (46 ∷ text) (drop (length text - length (46 ∷ text)) text) (λ e. absurd (omega (arith, length-drop (length text - length (46 ∷ text)) text)))

pick : (d e n : Bool) → (d ≡ true → n ≡ false) → d ≡ e → (not d && (e || n)) ≡ n
pick true e n h s = sym (h refl)
pick false true n h s = cc
pick false false n h s = refl

and_false : (b : Bool) → (b && false) ≡ false
and_false true = refl
and_false false = refl

pub under : (other domain : List ℕ) → lies_under other domain ≡ (not (is_ip_host domain) && ends_with nat_eq domain (46 ∷ other))
under other domain =
    pick (bytes_eq domain other) (bytes_eq other domain) (not (is_ip_host domain) && ends_with nat_eq domain (46 ∷ other))
    (λ e. ap (λ b. not (is_ip_host domain) && b) (subst (λ (o : List ℕ). ends_with nat_eq domain (46 ∷ o) ≡ false) (same_text domain other (sym e)) (never domain)) ∙ and_false (not (is_ip_host domain)))
    (nat_list_eq_equiv.symm domain other)

some_rest-or : (p q : List ℕ → Bool) (host : List ℕ) → some_rest (λ rest. p rest || q rest) host ≡ (some_rest p host || some_rest q host)
some_rest-or p q [] = refl
some_rest-or p q (b ∷ rest) = ap (λ s. (b == 46 && (p rest || q rest)) || s) (some_rest-or p q rest) ∙ four (b == 46) (p rest) (q rest) (some_rest p rest) (some_rest q rest)
  where
    four : (d p q s t : Bool) → ((d && (p || q)) || (s || t)) ≡ (((d && p) || s) || ((d && q) || t))
    four false p q s t = refl
    four true true q s t = refl
    four true false true true t = refl
    four true false true false t = refl
    four true false false s t = refl

some_rest-false : (host : List ℕ) → some_rest (λ rest. false) host ≡ false
some_rest-false [] = refl
some_rest-false (b ∷ rest) = λ i. and_false (b == 46) i || some_rest-false rest i

spread : (n e s : Bool) → ((n && e) || (n && s)) ≡ (n && (e || s))
spread true e s = refl
spread false e s = refl

pub under_some : (others : List (List ℕ)) (domain : List ℕ) → lies_under_some others domain ≡ (not (is_ip_host domain) && some_rest (has_text others) domain)
under_some [] domain = sym (ap (λ s. not (is_ip_host domain) && s) (some_rest-false domain) ∙ and_false (not (is_ip_host domain)))
under_some (other ∷ others) domain =
    (λ i. (under other domain ∙ ap (λ e. not (is_ip_host domain) && e) (ends_with-dot other domain)) i || under_some others domain i)
    ∙ spread (not (is_ip_host domain)) (some_rest (bytes_eq other) domain) (some_rest (has_text others) domain)
    ∙ ap (λ s. not (is_ip_host domain) && s) (sym (some_rest-or (bytes_eq other) (has_text others) domain))

pub and_true : (s n : Bool) → s ≡ true → (s && n) ≡ n
and_true true n h = refl
and_true false n h = cc

pub and_no : (s n : Bool) → s ≡ false → (s && n) ≡ false
and_no true n h = cc
and_no false n h = refl

pub and_last_no : (n s : Bool) → s ≡ false → (n && s) ≡ false
and_last_no n true h = cc
and_last_no n false h = and_false n

flipped : (a b : Bool) → (a && b) ≡ (b && a)
flipped true true = refl
flipped true false = refl
flipped false true = refl
flipped false false = refl

pub above : (table : BTreeSet (String Global)) (others : List (List ℕ)) (domain : List ℕ) → HasTexts table others
    → lies_under_some others domain ≡ (some_rest (contains_text table) domain && not (is_ip_host domain))
above table others domain has =
    under_some others domain ∙ flipped (not (is_ip_host domain)) (some_rest (has_text others) domain)
    ∙ ap (λ s. s && not (is_ip_host domain)) (sym (some_rest-same (contains_text table) (has_text others) has domain))
