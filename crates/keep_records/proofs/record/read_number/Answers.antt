use Rattle.std.proofs.Common.{rules}
use Rattle.keep_records.specs.Records.{number_of}
use Rattle.keep_records.proofs.record.read_number.Goals as goal

pub returns : goal.returns
unfolding number_of
returns c = search rules
