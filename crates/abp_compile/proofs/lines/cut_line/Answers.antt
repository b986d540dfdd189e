use Rattle.std.proofs.Common.{◌∙◌, sym}
use Rattle.std.proofs.lemmas.List.{take_rest}
use Rattle.abp_parse.proofs.Pieces.{some_cut, none_cut}
use Rattle.abp_compile.proofs.lines.cut_line.Goals as goal

pub returns-in-Some-clause-lines : goal.returns-in-Some-clause-lines
returns-in-Some-clause-lines c =
    rw take_rest ((some_cut 10 c.args.text.now c.in-Some.place (sym c.end_of_line.ensures ∙ c.in-Some.is)).1)

pub returns-in-None-clause-lines : goal.returns-in-None-clause-lines
returns-in-None-clause-lines c = none_cut 10 c.args.text.now (sym c.end_of_line.ensures ∙ c.in-None.is)
