-- What the words that are read stand for.
use Rattle.std.specs.Prelude.{ℕ, List, Option}
use Rattle.std.specs.Option.{option_copied}
use Rattle.session_spec.specs.Words as spec
use Rattle.dnr_words.specs.Reading as reading
use Rattle.dnr_words.specs.declared.options.Installed.{Installed}
use Rattle.dnr_words.specs.declared.options.Installed.TheVariants as what
use Rattle.dnr_words.specs.declared.options.Choice.{Choice}
use Rattle.dnr_words.specs.declared.options.Choice.TheVariants.{Workers, Suffixes, Install}
use Rattle.dnr_words.specs.declared.serving.Once.{Once}
use Rattle.dnr_words.specs.declared.serving.Chosen.{Chosen}
use Rattle.dnr_words.specs.declared.task.Task.{Task}
use Rattle.dnr_words.specs.declared.task.Task.TheVariants.{Match, Follow, Check, Compile, Serve, Sample, Hide, Prune}

abbrev pub installed_seen : Installed → spec.Installed
installed_seen (what.Folder name) = spec.folder name.now
installed_seen (what.List name file) = spec.list name.now file.now

abbrev pub choice_seen : Choice → spec.Choice
choice_seen (Workers count) = spec.workers_of count
choice_seen (Suffixes file) = spec.suffixes_in file.now
choice_seen (Install one) = spec.install (installed_seen one)

abbrev pub once_seen : Once → Option ℕ × Option (List ℕ)
once_seen once = (once.workers, option_copied once.suffixes)

abbrev pub chosen_seen : Chosen → reading.Chosen
chosen_seen c = record { workers = c.once.workers; suffixes = option_copied c.once.suffixes; script = c.script.now }

abbrev pub task_seen : Task → spec.Task
task_seen (Match rules script) = spec.match_files rules.now script.now
task_seen (Follow rules script) = spec.follow_files rules.now script.now
task_seen (Check kind rules) = spec.check_file kind rules.now
task_seen (Compile list) = spec.compile_file list.now
task_seen (Serve serving) = spec.serve_script serving
task_seen (Sample sample) = spec.make_sample sample
task_seen (Hide list host) = spec.hide_page list.now host.now
task_seen (Prune rules) = spec.prune_file rules.now
