use Rattle.std.proofs.Common.{List, map, sym, subst}
use Rattle.list_spec.specs.declared.domain_entry.DomainEntry.{DomainEntry}
use Rattle.hide_rules.specs.declared.line.HidingLine.{HidingLine}
use Rattle.hide_rules.specs.Listings.{FilesPlace}
use Rattle.hide_rules.specs.Seen.{hiding_seen}
use Rattle.hide_rules.proofs.Filed.{listed_more}
use Rattle.hide_rules.proofs.Pages.{item_seen, within_seen}
use Rattle.hide_rules.proofs.listings.listings_of.Goals as goal

pub loop-place-preserved : goal.loop-place-preserved
loop-place-preserved c =
    listed_more (map hiding_seen c.args.lines.now) c.loop-place.place (hiding_seen c.index-lines-place.result) c.loop-place.listings c.file_place.new.listings
    (within_seen c.args.lines.now c.loop-place.place c.loop-place-test.true) (item_seen c.args.lines.now c.loop-place.place c.index-lines-place.result c.index-lines-place.is) c.loop-place.invariant
    (subst (λ (line : HidingLine). FilesPlace c.loop-place.place line.domains.items c.loop-place.listings c.file_place.new.listings) (sym c.index-lines-place.is)
    (subst (λ (entries : List DomainEntry). FilesPlace c.loop-place.place entries c.loop-place.listings c.file_place.new.listings) c.as_slice.ensures.value c.in_ok-file_place.ensures))
