use Rattle.std.proofs.Common.{◌≡◌, Some}
use Rattle.std.specs.List.{position}
use Rattle.dnr_spec.specs.Suffixes.{is_white}
use Rattle.suffix_list.proofs.White.{white_boundary}
use Rattle.suffix_list.proofs.read.word_of.Goals as goal

pub range-requires-clause-end_boundary : goal.range-requires-clause-end_boundary
range-requires-clause-end_boundary c =
    let at : position is_white c.args.line.now ≡ Some c.in-Some.end = cc in
    white_boundary c.args.line.now c.in-Some.end at
