-- Which bytes may stand for which.
use Rattle.std.proofs.Common.{◌≡◌, ℕ, Bool, true, false, not, ◌==◌, sym, ap, ◌∙◌, arith}
use Rattle.std.specs.Char.{is_ascii_alphanumeric, to_ascii_lowercase}
use Rattle.std.proofs.lemmas.Bool.{and_parts, not-true}
use Rattle.std.proofs.lemmas.Bool.Decides.{nat_tests}
use Rattle.dnr_spec.specs.UrlFilter.{is_same, is_separator}
use Rattle.index_spec.specs.Words.{is_firm}

pub separator_ends : (b : ℕ) → is_separator b ≡ true → is_ascii_alphanumeric b ≡ false
separator_ends b is = grind (arith, nat_tests)

pub lower_alphanumeric : (b : ℕ) → is_ascii_alphanumeric (to_ascii_lowercase b) ≡ is_ascii_alphanumeric b
lower_alphanumeric b = grind (arith, nat_tests)

pub same_lower : (fold : Bool) (a b : ℕ) → is_same fold a b ≡ true → to_ascii_lowercase a ≡ to_ascii_lowercase b
same_lower true a b is = grind (arith, nat_tests)
same_lower false a b is = let e : a ≡ b = grind (arith, nat_tests) in ap to_ascii_lowercase e

pub same_kind : (fold : Bool) (a b : ℕ) → is_same fold a b ≡ true → is_ascii_alphanumeric a ≡ is_ascii_alphanumeric b
same_kind fold a b is = sym (lower_alphanumeric a) ∙ ap is_ascii_alphanumeric (same_lower fold a b is) ∙ lower_alphanumeric b

pub alphanumeric_plain : (c : ℕ) → is_ascii_alphanumeric c ≡ true → ((c == 42) ≡ false) × ((c == 94) ≡ false)
alphanumeric_plain c is = (grind (arith, nat_tests), grind (arith, nat_tests))

pub firm_ends : (c : ℕ) → is_firm c ≡ true → (is_ascii_alphanumeric c ≡ false) × ((c == 42) ≡ false)
firm_ends c is =
    let parts = and_parts (not (is_ascii_alphanumeric c)) (not (c == 42)) is in
    (not-true (is_ascii_alphanumeric c) parts.0, not-true (c == 42) parts.1)
