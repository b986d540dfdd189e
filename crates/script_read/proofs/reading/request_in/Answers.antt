use Rattle.std.proofs.Common.{◌≡◌, Ok, subst}
use Rattle.std.specs.Result.{IfOk, IfErr}
use Rattle.serde_json.specs.View.{view}
use Rattle.json_spec.specs.Json.{tree_of}
use Rattle.line_spec.specs.IsFault.{IsFaultOf}
use Rattle.script_read.proofs.PartsRead.{request_by_parts}
use Rattle.script_read.proofs.reading.request_in.Goals as goal

pub returns-clause-read : goal.returns-clause-read
returns-clause-read c =
    let parts = c.in_ok-parts.ensures in
    let same = request_by_parts c.args.line c.args.fields.now (view c.in_ok-parts.parts) parts.0 (tree_of c.args.bytes.now) parts.1 parts.2 in
    subst (λ r. IfOk c.request_with.result (λ request. r ≡ Ok request)) same c.request_with.ensures.read

pub returns-clause-refused : goal.returns-clause-refused
returns-clause-refused c =
    let parts = c.in_ok-parts.ensures in
    let same = request_by_parts c.args.line c.args.fields.now (view c.in_ok-parts.parts) parts.0 (tree_of c.args.bytes.now) parts.1 parts.2 in
    subst (λ r. IfErr c.request_with.result (IsFaultOf r)) same c.request_with.ensures.refused
