-- What a clause sees of an entry.
use Rattle.ruleset_store.specs.Seen.{update_seen, updates_seen}
use Rattle.update_spec.specs.Entries.{Entry, one, batch}
use Rattle.published.specs.declared.entry.Content.{Content}
use Rattle.published.specs.declared.entry.Content.TheVariants.{One, Together}

abbrev pub entry_of : Content → Entry
entry_of (One update) = one (update_seen update)
entry_of (Together updates) = batch (updates_seen updates.items)
