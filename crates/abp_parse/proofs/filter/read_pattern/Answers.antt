use Rattle.std.proofs.lemmas.Str.{IsAscii-drop, IsAscii-take}
use Rattle.abp_parse.proofs.filter.read_pattern.Goals as goal

pub text_of-requires : goal.text_of-requires
text_of-requires c = IsAscii-take _ _ (IsAscii-drop c.args.text.now 1 c.requires.ascii)
