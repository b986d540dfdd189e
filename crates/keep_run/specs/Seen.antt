-- What the words that are read stand for.
use Rattle.keep_run_spec.specs.Words as spec
use Rattle.keep_run.specs.declared.words.Keeping.{Keeping}

abbrev pub keeping_seen : Keeping → spec.Keeping
keeping_seen keeping = record { file = keeping.file.now; extension = keeping.extension.now; script = keeping.script.now }
