use Rattle.std.proofs.Common.{ap, ◌∙◌}
use Rattle.json_spec.specs.Json.{tree_of}
use Rattle.line_spec.specs.IsFault.{IsFaultOf}
use Rattle.line_spec.specs.Line.{command_of_tree}
use Rattle.script_read.specs.Asked.{IsAsked, Reads}
use Rattle.script_read.specs.Fields.{IsFaultFrom}
use Rattle.script_read.proofs.Asking.{if_ok, if_err, asked_is, fault_is}
use Rattle.script_read.proofs.Same.{no_object}
use Rattle.script_read.proofs.reading.asked_by.Goals as goal

pub asked_in-requires-clause-given : goal.asked_in-requires-clause-given
asked_in-requires-clause-given c =
    let found = rw c.in-Ok-Object.field-0-is at c.in-Ok-Object.ensures.ok in
    record { d = found.0; is = found.1; gives = found.2; keys = c.read_fields.ensures.keys ∙ c.requires.keys }

pub returns-in-Ok-Object-clause-read : goal.returns-in-Ok-Object-clause-read
returns-in-Ok-Object-clause-read c =
    let found = rw c.in-Ok-Object.field-0-is at c.in-Ok-Object.ensures.ok in
    let tree = tree_of c.args.bytes.now in
    let fields = c.read_fields.new.fields in
    if_ok c.asked_in.result (Reads c.args.line fields tree) (IsAsked c.args.line tree)
    (asked_is c.args.line tree fields found.0 found.1 found.2 (c.read_fields.ensures.keys ∙ c.requires.keys)) c.asked_in.ensures.read

pub returns-in-Ok-Object-clause-refused : goal.returns-in-Ok-Object-clause-refused
returns-in-Ok-Object-clause-refused c =
    let found = rw c.in-Ok-Object.field-0-is at c.in-Ok-Object.ensures.ok in
    let tree = tree_of c.args.bytes.now in
    let fields = c.read_fields.new.fields in
    if_err c.asked_in.result (IsFaultFrom c.args.line fields tree) (IsFaultOf (command_of_tree c.args.line tree))
    (fault_is c.args.line tree fields found.0 found.1 found.2 (c.read_fields.ensures.keys ∙ c.requires.keys)) c.asked_in.ensures.refused

pub returns-in-Ok-Other-clause-refused : goal.returns-in-Ok-Other-clause-refused
returns-in-Ok-Other-clause-refused c =
    let found = rw c.in-Ok-Other.field-0-is at c.in-Ok-Other.ensures.ok in
    ap (command_of_tree c.args.line) found.1 ∙ no_object c.args.line found.0 found.2
