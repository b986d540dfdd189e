use Rattle.std.proofs.Common.{ℕ, List, subst, rules}
use Rattle.hide_rules.specs.Listings.{AddsPlace}
use Rattle.hide_rules.proofs.Filed.{files_listed, files_nothing}
use Rattle.hide_rules.proofs.listings.file_entry.Goals as goal

pub returns-in_ok-add_place : goal.returns-in_ok-add_place
returns-in_ok-add_place c =
    files_listed c.args.place c.args.entry.now c.args.listings.now c.add_place.new.listings
    (subst (λ (d : List ℕ). AddsPlace d c.args.place c.args.listings.now c.add_place.new.listings) c.as_str.ensures c.in_ok-add_place.ensures)

pub returns-else-not-entry : goal.returns-else-not-entry
returns-else-not-entry c = files_nothing c.args.place c.args.entry.now c.args.listings.now (search rules)
