-- The command of `line_spec` that the program's stands for.
use Rattle.ruleset_store.specs.Seen.{update_seen, updates_seen}
use Rattle.line_spec.specs.Line as spec
use Rattle.script_read.specs.declared.command.Command.{Command}
use Rattle.script_read.specs.declared.command.Command.TheVariants.{Blank, Sync, Request, Explain, Update, Batch}

abbrev pub command_seen : Command → spec.Command
command_seen Blank = spec.blank
command_seen Sync = spec.sync
command_seen (Request r) = spec.request r
command_seen (Explain r) = spec.explain r
command_seen (Update u) = spec.update (update_seen u)
command_seen (Batch us) = spec.batch (updates_seen us)
