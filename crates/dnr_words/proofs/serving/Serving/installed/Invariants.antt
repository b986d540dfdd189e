use Rattle.std.proofs.Common.{◌≡◌, ◌++◌, map, string_bytes, length}
use Rattle.dnr_words.specs.Reading.{installed_in}
use Rattle.dnr_words.specs.Seen.{installed_seen}
use Rattle.dnr_words.proofs.serving.Serving.installed.Given as goal

abbrev pub invariant-loop-rest : goal.invariant-loop-rest
invariant-loop-rest l = map installed_seen l.all.items ++ installed_in (map string_bytes l.rest) ≡ l.fn.self.installed

abbrev pub decreases-loop-rest : goal.decreases-loop-rest
decreases-loop-rest l = length l.rest
