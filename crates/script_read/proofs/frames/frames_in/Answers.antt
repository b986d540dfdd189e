use Rattle.std.proofs.Common.{◌≤◌, length, option_map, subst, sym, ap, ◌∙◌, arith}
use Rattle.std.specs.Result.{IfErr}
use Rattle.serde_json.specs.View.{view}
use Rattle.line_spec.specs.IsFault.{IsFaultOf}
use Rattle.line_spec.specs.RequestLine.{frames_given}
use Rattle.script_read.proofs.Limits.{frames_few, frames_are}
use Rattle.script_read.proofs.frames.frames_in.Goals as goal

pub returns-in-Some-as_array-clause-few : goal.returns-in-Some-as_array-clause-few
returns-in-Some-as_array-clause-few c = frames_few _ c.each_frame.result (omega (arith, c.if-len-le-MAX_FRAMES.true)) c.each_frame.ensures.read

pub returns-in-Some-as_array-clause-refused : goal.returns-in-Some-as_array-clause-refused
returns-in-Some-as_array-clause-refused c =
    let values = c.in-Some-as_array.values.now.items in
    let few : length values ≤ 64 = omega (arith, c.if-len-le-MAX_FRAMES.true) in
    let given = ap (λ o. frames_given (option_map (λ v. view v.now) o)) c.in-Some.is in
    subst (λ r. IfErr c.each_frame.result (IsFaultOf r)) (frames_are values c.as_slice.result.now (view c.in-Some.list.now) c.as_slice.ensures.value c.in-Some-as_array.ensures few ∙ sym given) c.each_frame.ensures.refused
