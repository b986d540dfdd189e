-- The registrable domain, and the rules of bytes, by the parts of their definitions.
use Rattle.std.proofs.Common.{◌≡◌, ℕ, ◌+◌, List, true, false, None, Err, refl, sym, ap, ◌∙◌}
use Rattle.std.specs.Str.{IsUtf8, is_utf8}
use Rattle.std.proofs.lemmas.Bool.{cond-true, cond-false}
use Rattle.std.proofs.lemmas.Str.{IsUtf8-from_is_utf8, is_utf8-from_IsUtf8}
use Rattle.dnr_spec.specs.Hosts.{labels_of}
use Rattle.dnr_spec.specs.Suffixes.{SuffixRule, is_domain, last_labels, registrable, registrable_name, suffix_len, without_dot, read_suffixes}
use Rattle.dnr_spec.specs.declared.suffix_refusal.SuffixRefusal.TheVariants.{NotUtf8}
use Rattle.suffix_list.specs.Reading.{read_text}

pub no_domain : (rules : List SuffixRule) (host name : List ℕ) → name ≡ without_dot host → is_domain name ≡ false → None ≡ registrable rules host
unfolding registrable
no_domain rules host name e h = sym (ap (registrable_name rules) (sym e) ∙ cond-false (is_domain name) _ _ h)

pub of_domain : (rules : List SuffixRule) (host name : List ℕ) → name ≡ without_dot host → is_domain name ≡ true → registrable rules host ≡ last_labels (suffix_len rules (labels_of name) + 1) (labels_of name)
unfolding registrable
of_domain rules host name e h = ap (registrable_name rules) (sym e) ∙ cond-true (is_domain name) _ _ h

is_no_text : (bytes : List ℕ) → ¬ (IsUtf8 bytes) → is_utf8 bytes ≡ false
is_no_text bytes h =
    elim (is_utf8 bytes) as (λ v. is_utf8 bytes ≡ v → v ≡ false)
    [ true ↦ λ e. absurd (h (IsUtf8-from_is_utf8 bytes e)) | false ↦ λ e. refl ] refl

pub no_text : (bytes : List ℕ) → ¬ (IsUtf8 bytes) → read_suffixes bytes ≡ Err NotUtf8
unfolding read_suffixes
no_text bytes h = cond-false (is_utf8 bytes) _ _ (is_no_text bytes h)

pub of_text : (bytes : List ℕ) → IsUtf8 bytes → read_suffixes bytes ≡ read_text bytes
unfolding read_suffixes read_text
of_text bytes h = cond-true (is_utf8 bytes) _ _ (is_utf8-from_IsUtf8 bytes h)
