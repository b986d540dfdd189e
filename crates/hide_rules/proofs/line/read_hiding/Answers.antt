use Rattle.std.proofs.Common.{◌≡◌, ℕ, List, length, true, false, ◌==◌, sym, ap, ◌∙◌}
use Rattle.std.specs.List.{list_all}
use Rattle.list_spec.specs.declared.domain_entry.DomainEntry.{DomainEntry}
use Rattle.list_spec.specs.Entries.{has_conflict}
use Rattle.hide_spec.specs.HidingLine.{hiding, hiding_line, hide_entries, selector_of}
use Rattle.hide_rules.specs.Read.{names_domain}
use Rattle.hide_rules.proofs.Faults.{is_not_utf8, has_bad_domain, has_empty_selector, has_both_domains, has_no_fault, no_utf8, yes_utf8}
use Rattle.hide_rules.proofs.line.read_hiding.Goals as goal

pub returns-in_default : goal.returns-in_default
returns-in_default c =
    sym (is_not_utf8 (hiding_line c.args.exception c.args.before.now c.args.behind.now) (no_utf8 c.selector_of.result.now (selector_of c.args.behind.now) c.selector_of.ensures c.in_default.ensures.cases.0))

pub returns-in_default-2 : goal.returns-in_default-2
returns-in_default-2 c =
    let bad : list_all names_domain (hide_entries c.args.before.now) ≡ false = rw c.in_default-2.is at c.in_ok-domains.ensures in
    sym (has_bad_domain (hiding_line c.args.exception c.args.before.now c.args.behind.now) (yes_utf8 c.selector_of.result.now (selector_of c.args.behind.now) c.selector_of.ensures c.in-Ok.ensures.cases.1) bad)

pub returns-then-is_empty : goal.returns-then-is_empty
returns-then-is_empty c =
    let text : c.in-Ok.selector.now ≡ selector_of c.args.behind.now = c.in-Ok.ensures.cases.0 ∙ c.selector_of.ensures in
    let read : (c.in-Some.domains.items ≡ hide_entries c.args.before.now) × (list_all names_domain (hide_entries c.args.before.now) ≡ true) = rw c.in-Some.is at c.in_ok-domains.ensures in
    let empty : (length (selector_of c.args.behind.now) == 0) ≡ true = ap (λ (t : List ℕ). length t == 0) (sym text) ∙ sym c.is_empty.ensures ∙ c.if-is_empty.true in
    sym (has_empty_selector (hiding_line c.args.exception c.args.before.now c.args.behind.now) (yes_utf8 c.selector_of.result.now (selector_of c.args.behind.now) c.selector_of.ensures c.in-Ok.ensures.cases.1) read.1 empty)

pub returns-then-branch : goal.returns-then-branch
returns-then-branch c =
    let text : c.in-Ok.selector.now ≡ selector_of c.args.behind.now = c.in-Ok.ensures.cases.0 ∙ c.selector_of.ensures in
    let read : (c.in-Some.domains.items ≡ hide_entries c.args.before.now) × (list_all names_domain (hide_entries c.args.before.now) ≡ true) = rw c.in-Some.is at c.in_ok-domains.ensures in
    let some : (length (selector_of c.args.behind.now) == 0) ≡ false = ap (λ (t : List ℕ). length t == 0) (sym text) ∙ sym c.is_empty.ensures ∙ c.if-is_empty.false in
    let both : has_conflict (hide_entries c.args.before.now) ≡ true = ap has_conflict (sym (c.deref.ensures.value ∙ read.0)) ∙ sym c.in_ok-has_conflict.ensures ∙ c.if-branch.true in
    sym (has_both_domains (hiding_line c.args.exception c.args.before.now c.args.behind.now) (yes_utf8 c.selector_of.result.now (selector_of c.args.behind.now) c.selector_of.ensures c.in-Ok.ensures.cases.1) read.1 some both)

pub returns : goal.returns
returns c =
    let text : c.in-Ok.selector.now ≡ selector_of c.args.behind.now = c.in-Ok.ensures.cases.0 ∙ c.selector_of.ensures in
    let read : (c.in-Some.domains.items ≡ hide_entries c.args.before.now) × (list_all names_domain (hide_entries c.args.before.now) ≡ true) = rw c.in-Some.is at c.in_ok-domains.ensures in
    let some : (length (selector_of c.args.behind.now) == 0) ≡ false = ap (λ (t : List ℕ). length t == 0) (sym text) ∙ sym c.is_empty.ensures ∙ c.if-is_empty.false in
    let apart : has_conflict (hide_entries c.args.before.now) ≡ false = ap has_conflict (sym (c.deref.ensures.value ∙ read.0)) ∙ sym c.in_ok-has_conflict.ensures ∙ c.if-branch.false in
    let kept : c.build-selector.result ≡ selector_of c.args.behind.now = c.build-selector.ensures ∙ c.in_ok-from_str.ensures.ok ∙ text in
    ap (λ (entries : List DomainEntry). hiding (record { exception = c.args.exception; domains = entries; selector = c.build-selector.result })) read.0
    ∙ ap (λ (t : List ℕ). hiding (record { exception = c.args.exception; domains = hide_entries c.args.before.now; selector = t })) kept
    ∙ sym (has_no_fault (hiding_line c.args.exception c.args.before.now c.args.behind.now) (yes_utf8 c.selector_of.result.now (selector_of c.args.behind.now) c.selector_of.ensures c.in-Ok.ensures.cases.1) read.1 some apart)
