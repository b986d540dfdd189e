use Rattle.std.proofs.Common.{rules, string_bytes, Global}
use Rattle.dnr_words.proofs.Samples.{too_few, too_many}
use Rattle.dnr_words.proofs.sample.read_sample.Goals.{in_default-via-then-words-lt4, in_default-via-else-words-lt4+else-words-lt5}
use Rattle.dnr_words.proofs.sample.read_sample.Goals as goal

pub returns-in_default : goal.returns-in_default
returns-in_default c =
    elim c.in_default.branch [ in_default-via-then-words-lt4 w ↦ too_few (string_bytes {Z = Global}) c.args.words.now (search rules) | in_default-via-else-words-lt4+else-words-lt5 w ↦ too_many (string_bytes {Z = Global}) c.args.words.now (search rules) ]
