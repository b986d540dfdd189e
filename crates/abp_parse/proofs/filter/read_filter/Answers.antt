use Rattle.std.proofs.lemmas.Str.{IsAscii-drop, IsAscii-take}
use Rattle.abp_parse.proofs.filter.read_filter.Goals as goal

pub line_cut-requires : goal.line_cut-requires
line_cut-requires c = IsAscii-take _ _ (IsAscii-drop c.args.text.now 2 c.requires)
