use Rattle.std.proofs.Common.{◌≡◌, ◌≢◌, length, arith, Ok, Err}
use Rattle.dnr_spec.specs.UrlFilter.{pattern_of}
use Rattle.dnr_spec.specs.declared.pattern_refusal.PatternRefusal.TheVariants.{NotAscii}
use Rattle.url_filter.proofs.Filters.{pattern_ok}
use Rattle.abp_parse.proofs.filter.plain_pattern.Goals as goal

pub unreachable-requires-in-Err-NotAscii : goal.unreachable-requires-in-Err-NotAscii
unreachable-requires-in-Err-NotAscii c =
    let some : length c.args.text.now ≢ 0 = omega (arith, c.requires.some) in
    let filter : pattern_of c.args.text.now ≡ Ok c.args.text.now = pattern_ok c.args.text.now some c.requires.short c.requires.anchored c.requires.ascii in
    let refused : pattern_of c.as_str.result.now ≡ Err NotAscii = rw c.in-Err-NotAscii.field-0-is at c.in-Err-NotAscii.ensures.refused in
    let same : pattern_of c.as_str.result.now ≡ pattern_of c.args.text.now = cc (c.as_str.ensures, c.in_ok-text.ensures) in
    cc
