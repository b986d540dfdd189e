use Rattle.std.proofs.Common.{ℕ, ◌-◌, Some, option_map, string_bytes, sym, ap, ◌∙◌}
use Rattle.std.proofs.lemmas.List.{length-map}
use Rattle.regex_host.proofs.Patterns.{groups_read, groups_are_some, groups_refused}
use Rattle.regex_host.proofs.groups.count_groups.Goals as goal

pub returns-in_default-clause-no_pattern : goal.returns-in_default-clause-no_pattern
returns-in_default-clause-no_pattern c =
    λ _. groups_refused _ _ (rw c.default-config.ensures at c.in-Err.ensures.err) c.in_default.not-OutOfMemory

pub returns-in-Ok-try_from-clause-groups : goal.returns-in-Ok-try_from-clause-groups
returns-in-Ok-try_from-clause-groups c =
    let read = groups_read _ _ _ (rw c.default-config.ensures at c.in-Ok.ensures.ok) in
    let parsed = c.in-Ok.parsed in
    let count = length-map parsed.names.items (option_map string_bytes) ∙ sym parsed.names.ok.0 ∙ sym c.len.ensures in
    read ∙ ap Some (ap (λ (n : ℕ). n - 1) count ∙ sym c.in-Ok-try_from.ensures.1)

pub returns-clause-too_big : goal.returns-clause-too_big
returns-clause-too_big c = λ _. groups_are_some _ _ _ (rw c.default-config.ensures at c.in-Ok.ensures.ok)
