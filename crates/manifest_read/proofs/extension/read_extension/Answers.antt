use Rattle.std.proofs.Common.{List, ap, sym, subst, ◌∙◌}
use Rattle.std.specs.Prelude.{IfSome, IfErr}
use Rattle.std.proofs.lemmas.Result.{err_from_is_err_and}
use Rattle.dnr_base.specs.Faults.{Rose}
use Rattle.load_spec.specs.Manifest.{Resource, Manifest}
use Rattle.manifest_read.specs.Asked.{MayAskSets}
use Rattle.manifest_read.specs.Refusals.{Refuses, RefusesSets}
use Rattle.manifest_read.proofs.Whole.{refused_by_sets}
use Rattle.manifest_read.proofs.extension.read_extension.Goals as goal

pub read_sets-requires : goal.read_sets-requires
read_sets-requires g c =
    let named = c.deref.ensures.value ∙ ap (λ (m : Manifest). m.resources) c.manifest.view_is in
    subst (λ (rs : List Resource). MayAskSets g.F.Shelf.allows c.args.name.now rs) (sym named) (c.requires.sets c.in_ok-manifest.manifest c.in_ok-manifest.ensures.held)

pub returns-in_err-sets-clause-refused : goal.returns-in_err-sets-clause-refused
returns-in_err-sets-clause-refused g c =
    let p = err_from_is_err_and c.from_residual-in_err-sets.result c.from_residual-in_err-sets.ensures.1 in
    let known = g.F.Source.files c.args.shelf.now in
    let rose = Rose (g.H.RegexHost.faults c.args.host.now) (g.H.RegexHost.faults c.read_sets.new.host) in
    let manifest = c.in_ok-manifest.manifest in
    let resources = manifest.resources in
    let refusal = c.in_err-sets.field-0.0 in
    let in_order = subst (λ (rs : List Resource). IfSome (g.F.Source.files c.read_manifest.new.shelf) (λ files. RefusesSets files rose c.args.name.now rs refusal)) c.deref.ensures.value c.in_err-sets.ensures.refused in
    let of_manifest = subst (λ (rs : List Resource). IfSome (g.F.Source.files c.read_manifest.new.shelf) (λ files. RefusesSets files rose c.args.name.now rs refusal))
    (ap (λ (m : Manifest). m.resources) c.manifest.view_is) in_order in
    let why = subst (λ k. IfSome k (λ files. RefusesSets files rose c.args.name.now resources refusal)) c.in_ok-manifest.ensures.files of_manifest in
    let whole = refused_by_sets known rose c.args.name.now manifest refusal c.in_ok-manifest.ensures.ok why in
    subst (λ r. IfErr r (λ e. IfSome known (λ files. Refuses files rose c.args.name.now e))) (sym p.1)
    (subst (λ e. IfSome known (λ files. Refuses files rose c.args.name.now e)) (sym p.2) whole)
