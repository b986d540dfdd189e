use Rattle.std.proofs.Common.{◌≡◌, ◌∙◌, sym, ap, subst, ◌||◌, ◌+◌, ℕ, List, [], ◌∷◌, ◌++◌}
use Rattle.std.specs.Prelude.{IfErr}
use Rattle.std.specs.Str.{bytes_eq}
use Rattle.std.specs.BTreeSet.{contains_text}
use Rattle.std.proofs.lemmas.Result.{err_from_is_err_and}
use Rattle.serde_json.specs.View.{items_view}
use Rattle.load_spec.specs.Manifest.{Resource, resources_in}
use Rattle.manifest_read.specs.Reading.{Taken, AddsId, IsFaultOf}
use Rattle.manifest_read.proofs.Ids.{takes_more}
use Rattle.manifest_read.proofs.Resources.{AreReadSoFar, resources_go, resources_stop}
use Rattle.manifest_read.proofs.manifest.each_resource.Goals as goal

pub returns-in_err-resource-clause-refused : goal.returns-in_err-resource-clause-refused
returns-in_err-resource-clause-refused c =
    let l = c.loop-value in
    let p = err_from_is_err_and c.from_residual.result c.from_residual.ensures.1 in
    let whole = resources_in [] (items_view c.args.values.now) in
    let stop = resources_stop c.args.values.now l.value-index c.value-item.result l.taken l.resources.items c.in_err-resource.field-0.0 c.loop-value-test.true c.value-item.is l.invariant.taken l.invariant.so_far c.in_err-resource.ensures.refused in
    subst (λ r. IfErr r (IsFaultOf whole)) (sym p.1) (subst (IsFaultOf whole) (sym p.2) stop)

pub loop-value-preserved : goal.loop-value-preserved
loop-value-preserved c =
    let l = c.loop-value in
    let done = l.resources.items in
    let resource = c.in_ok-resource.resource in
    let name : c.as_str.result.now ≡ resource.id = c.as_str.ensures ∙ c.id.ensures in
    let adds : AddsId l.taken c.take_id.new.taken resource.id = λ other. c.in_ok-take_id.ensures other ∙ ap (λ (id : List ℕ). contains_text l.taken other || bytes_eq id other) name in
    let push : c.push.new.self.items ≡ done ++ resource ∷ [] = c.in_ok-push.ensures.items in
    record {
      taken = subst (λ (rs : List Resource). Taken c.take_id.new.taken rs) (sym push) (takes_more l.taken c.take_id.new.taken done resource l.invariant.taken adds);
      so_far = subst (λ (rs : List Resource). AreReadSoFar c.args.values.now rs (l.value-index + 1)) (sym push)
          (resources_go c.args.values.now l.value-index c.value-item.result l.taken done resource c.loop-value-test.true c.value-item.is l.invariant.taken l.invariant.so_far c.in_ok-resource.ensures.read);
    }
