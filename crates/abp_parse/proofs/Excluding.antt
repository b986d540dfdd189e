-- The set of the domains that are excluded, entry by entry.
use Rattle.std.proofs.Common.{◌≡◌, ◌<◌, ◌+◌, ℕ, List, length, take, get_or, Bool, true, false, cond, ◌||◌, ◌&&◌, refl, sym, ap, ◌∙◌, String, Global}
use Rattle.std.specs.BTreeSet.{BTreeSet}
use Rattle.std.specs.Str.{bytes_eq}
use Rattle.std.specs.List.{list_any}
use Rattle.std.proofs.lemmas.List.Folds.{list_any_more}
use Rattle.list_spec.specs.declared.domain_entry.DomainEntry.{DomainEntry}
use Rattle.abp_parse.specs.Excluded.{AddsEntry, HasExcluded}

pub or_cond : (old new : Bool) → cond new true old ≡ (old || new)
or_cond true true = refl
or_cond true false = refl
or_cond false true = refl
or_cond false false = refl

pub or_nothing : (b : Bool) → b ≡ (b || false)
or_nothing true = refl
or_nothing false = refl

abbrev is_that : List ℕ → DomainEntry → Bool
is_that domain entry = entry.excluded && bytes_eq entry.domain domain

pub more_entries : (entries : List DomainEntry) (i : ℕ) (entry : DomainEntry) (old new : BTreeSet (String Global)) → i < length entries → entry ≡ get_or entries i entry
    → HasExcluded old (take i entries) → AddsEntry old new entry → HasExcluded new (take (i + 1) entries)
more_entries entries i entry old new less is before adds domain =
    adds domain ∙ ap (λ b. b || is_that domain entry) (before domain)
    ∙ ap (λ (e : DomainEntry). list_any (is_that domain) (take i entries) || is_that domain e) is
    ∙ sym (list_any_more (is_that domain) entries i entry less)
