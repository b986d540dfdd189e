use Rattle.std.proofs.Common.{◌<◌, get_or, arith}
use Rattle.std.proofs.lemmas.Str.{IsCharBoundary-after_ascii}
use Rattle.regex_host.proofs.substitution.written.Goals as goal

pub range-requires-clause-end_boundary : goal.range-requires-clause-end_boundary
range-requires-clause-end_boundary c =
    let slash = rw c.as_bytes.ensures.value at c.if-byte-eq92.true in
    let low : get_or c.args.behind.now 0 0 < 128 = omega (arith, slash) in
    IsCharBoundary-after_ascii c.args.behind.now 0 c.utf8.behind c.requires.some low
