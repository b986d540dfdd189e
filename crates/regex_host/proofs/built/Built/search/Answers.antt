use Rattle.std.proofs.Common.{◌≡◌, true, false, is_some, arith, sym, ap, Some, ◌∙◌}
use Rattle.std.proofs.lemmas.Grind.{common_steps}
use Rattle.regex_host.proofs.Patterns.{found_built, bytes_below, groups_counted}
use Rattle.regex_host.proofs.Places.{none_found, some_found, first_within}
use Rattle.regex_host.proofs.built.Built.search.Goals as goal

pub returns-then-is_none-clause-found : goal.returns-then-is_none-clause-found
returns-then-is_none-clause-found c =
    let same = found_built c.self.inside.regex c.self.inside.fold c.args.text.now (bytes_below c.args.text.now c.type_inv.text) c.self.invariant.0 c.self.invariant.1 in
    let told = rw c.in_ok-matcher.ensures.pattern at c.captures_read.ensures.found in
    let none : is_some c.captures_read.result ≡ false = grind (arith, common_steps) in
    rw (← c.self.view_is, same) (none_found _ c.captures_read.result _ _ _ told none)

pub returns-clause-found : goal.returns-clause-found
returns-clause-found c =
    let same = found_built c.self.inside.regex c.self.inside.fold c.args.text.now (bytes_below c.args.text.now c.type_inv.text) c.self.invariant.0 c.self.invariant.1 in
    let told = rw c.in_ok-matcher.ensures.pattern at c.captures_read.ensures.found in
    let some : is_some c.captures_read.result ≡ true = grind (arith, common_steps) in
    let count = c.captures_read.ensures.count ∙ c.in_ok-locations.ensures.value ∙ groups_counted c.self.inside.regex in
    rw (← c.self.view_is, same, c.places.ensures) (some_found _ c.captures_read.result _ _ _ c.captures_read.new.locations told some count)

pub returns-clause-within : goal.returns-clause-within
returns-clause-within c =
    let told = rw c.in_ok-matcher.ensures.pattern at c.captures_read.ensures.found in
    let some : is_some c.captures_read.result ≡ true = grind (arith, common_steps) in
    let count = c.captures_read.ensures.count ∙ c.in_ok-locations.ensures.value ∙ groups_counted c.self.inside.regex in
    λ _. first_within c.args.text.now _ _ _ (some_found _ c.captures_read.result _ _ _ c.captures_read.new.locations told some count ∙ ap Some (sym c.places.ensures))
