use Rattle.std.proofs.Common.{◌≡◌, map, take}
use Rattle.dnr_c.specs.Given.{file_of}
use Rattle.dnr_c.proofs.given.files_of.Given as goal

abbrev pub invariant-loop-file : goal.invariant-loop-file
invariant-loop-file l = l.all.items ≡ map file_of (take l.file-index l.files)
