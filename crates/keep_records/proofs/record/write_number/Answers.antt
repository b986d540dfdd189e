use Rattle.std.proofs.Common.{rules}
use Rattle.keep_records.specs.Records.{number_bytes}
use Rattle.keep_records.proofs.record.write_number.Goals as goal

pub returns : goal.returns
unfolding number_bytes
returns c = search rules
