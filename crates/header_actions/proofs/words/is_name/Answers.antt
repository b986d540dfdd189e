use Rattle.std.proofs.Common.{arith}
use Rattle.std.proofs.lemmas.Bool.Decides.{nat_tests}
use Rattle.header_actions.proofs.Names.{is_name_by_bytes}
use Rattle.header_actions.proofs.words.is_name.Goals as goal

pub returns-then-bytes-le-MAX_NAME : goal.returns-then-bytes-le-MAX_NAME
returns-then-bytes-le-MAX_NAME c = let e = is_name_by_bytes c.args.name.now in grind (arith, nat_tests)

pub returns-else-bytes-le-MAX_NAME : goal.returns-else-bytes-le-MAX_NAME
returns-else-bytes-le-MAX_NAME c = let e = is_name_by_bytes c.args.name.now in grind (arith, nat_tests)
