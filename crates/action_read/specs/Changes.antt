-- The header changes that the program's stand for.
use Rattle.std.specs.Prelude.{List, map}
use Rattle.std.specs.Option.{option_copied}
use Rattle.json_spec.specs.RuleAction as spec
use Rattle.action_read.specs.declared.headers.Change.{Change}

abbrev pub change_seen : Change → spec.Change
change_seen change = record { header = change.header.now; operation = change.operation; value = option_copied change.value }

abbrev pub changes_seen : List Change → List spec.Change
changes_seen changes = map change_seen changes
