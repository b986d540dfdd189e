-- The first reason of a line.
use Rattle.std.proofs.Common.{◌≡◌, ℕ, List, length, true, false, ◌==◌, refl, sym, subst, ⊎_elim}
use Rattle.std.specs.List.{list_all}
use Rattle.std.specs.Str.{is_utf8, IsUtf8}
use Rattle.std.proofs.lemmas.Bool.{cases_Bool}
use Rattle.std.proofs.lemmas.Str.{IsUtf8-from_is_utf8, is_utf8-from_IsUtf8}
use Rattle.list_spec.specs.Entries.{has_conflict}
use Rattle.hide_spec.specs.declared.hide_reason.HideReason.TheVariants.{NotUtf8, BadDomain, EmptySelector, BothDomains}
use Rattle.hide_spec.specs.HidingLine.{HidingLine, hiding, unsupported, hiding_unless_fault}
use Rattle.hide_rules.specs.Read.{names_domain}

pub is_not_utf8 : (line : HidingLine) → is_utf8 line.selector ≡ false → hiding_unless_fault line ≡ unsupported NotUtf8
is_not_utf8 line e = rw e refl

pub has_bad_domain : (line : HidingLine) → is_utf8 line.selector ≡ true → list_all names_domain line.domains ≡ false → hiding_unless_fault line ≡ unsupported BadDomain
has_bad_domain line e d = rw (e, d) refl

pub has_empty_selector : (line : HidingLine) → is_utf8 line.selector ≡ true → list_all names_domain line.domains ≡ true → (length line.selector == 0) ≡ true → hiding_unless_fault line ≡ unsupported EmptySelector
has_empty_selector line e d s = rw (e, d, s) refl

pub has_both_domains : (line : HidingLine) → is_utf8 line.selector ≡ true → list_all names_domain line.domains ≡ true → (length line.selector == 0) ≡ false → has_conflict line.domains ≡ true → hiding_unless_fault line ≡ unsupported BothDomains
has_both_domains line e d s b = rw (e, d, s, b) refl

pub has_no_fault : (line : HidingLine) → is_utf8 line.selector ≡ true → list_all names_domain line.domains ≡ true → (length line.selector == 0) ≡ false → has_conflict line.domains ≡ false → hiding_unless_fault line ≡ hiding line
has_no_fault line e d s b = rw (e, d, s, b) refl

pub no_utf8 : (bytes text : List ℕ) → bytes ≡ text → (IsUtf8 bytes → ⊥) → is_utf8 text ≡ false
no_utf8 bytes text same never =
    ⊎_elim (λ is. absurd (never (subst IsUtf8 (sym same) (IsUtf8-from_is_utf8 text is)))) (λ other. other) (cases_Bool (is_utf8 text))

pub yes_utf8 : (bytes text : List ℕ) → bytes ≡ text → IsUtf8 bytes → is_utf8 text ≡ true
yes_utf8 bytes text same is = is_utf8-from_IsUtf8 text (subst IsUtf8 same is)
