use Rattle.std.proofs.Common.{◌≡◌, ◌≤◌, false, sym, ◌∙◌, arith}
use Rattle.dnr_spec.specs.Lines.{max_lines, is_blank}
use Rattle.json_spec.specs.Json.{tree_of}
use Rattle.line_spec.specs.Line.{command_of, command_of_tree}
use Rattle.line_spec.specs.IsFault.{IsFaultOf}
use Rattle.script_read.specs.Asked.{IsAsked, AsksFor}
use Rattle.script_read.proofs.Asking.{if_ok, if_err}
use Rattle.script_read.proofs.WholeLines.{line_asks, line_refused}
use Rattle.script_read.proofs.reading.ask_line.Goals as goal

pub returns-clause-asks : goal.returns-clause-asks
returns-clause-asks c =
    let line = c.args.line in
    let bytes = c.args.bytes.now in
    let full : is_blank bytes ≡ false = sym c.is_blank.ensures ∙ c.if-is_blank.false in
    let small : line ≤ max_lines = omega arith in
    if_ok c.asked_of.result (IsAsked line (tree_of bytes)) (AsksFor line bytes) (line_asks line bytes full small) c.asked_of.ensures.read

pub returns-clause-refused : goal.returns-clause-refused
returns-clause-refused c =
    let line = c.args.line in
    let bytes = c.args.bytes.now in
    let full : is_blank bytes ≡ false = sym c.is_blank.ensures ∙ c.if-is_blank.false in
    let small : line ≤ max_lines = omega arith in
    if_err c.asked_of.result (IsFaultOf (command_of_tree line (tree_of bytes))) (IsFaultOf (command_of line bytes)) (line_refused line bytes full small) c.asked_of.ensures.refused
