use Rattle.std.proofs.Common.{take}
use Rattle.hide_rules.specs.Listings.{FilesPlace}
use Rattle.hide_rules.proofs.listings.file_place.Given as goal

abbrev pub invariant-loop-entry : goal.invariant-loop-entry
invariant-loop-entry l = FilesPlace l.place (take l.entry-index l.entries) l.initial.listings l.listings
