use Rattle.std.proofs.Common.{sym, subst}
use Rattle.std.specs.Prelude.{IfSome, IfErr}
use Rattle.std.proofs.lemmas.List.Elements.{All-get_or}
use Rattle.std.proofs.lemmas.Result.{err_from_is_err_and}
use Rattle.dnr_base.specs.Faults.{Rose}
use Rattle.load_spec.specs.Extensions.{file_in}
use Rattle.load_spec.specs.Manifest.{Resource}
use Rattle.manifest_read.specs.Refusals.{RefusesSet, RefusesSets}
use Rattle.manifest_read.proofs.Sets.{sets_stop, rose_since}
use Rattle.manifest_read.proofs.extension.read_sets.Goals as goal

pub returns-in_err-set-clause-refused : goal.returns-in_err-set-clause-refused
returns-in_err-set-clause-refused g c =
    let l = c.loop-resource in
    let p = err_from_is_err_and c.from_residual-in_err-set.result c.from_residual-in_err-set.ensures.1 in
    let known = g.F.Source.files c.args.shelf.now in
    let old = g.H.RegexHost.faults c.args.host.now in
    let mid = g.H.RegexHost.faults l.host in
    let now = g.H.RegexHost.faults c.read_set.new.host in
    let refusal = c.in_err-set.field-0.0 in
    let why = subst (λ k. IfSome k (λ files. RefusesSet files (Rose mid now) c.args.name.now refusal c.resource-item.result)) l.invariant.files c.in_err-set.ensures.refused in
    let stop = sets_stop known (Rose mid now) (Rose old now) c.args.name.now c.args.resources.now l.sets.items l.resource-index c.resource-item.result refusal (rose_since old mid now l.invariant.later) c.loop-resource-test.true c.resource-item.is l.invariant.so_far why in
    subst (λ r. IfErr r (λ e. IfSome known (λ files. RefusesSets files (Rose old now) c.args.name.now c.args.resources.now e))) (sym p.1)
    (subst (λ e. IfSome known (λ files. RefusesSets files (Rose old now) c.args.name.now c.args.resources.now e)) (sym p.2) stop)

pub read_set-requires : goal.read_set-requires
read_set-requires g c =
    let May = λ (r : Resource). g.F.Shelf.allows (file_in c.args.name.now r.path) in
    subst May (sym c.resource-item.is) (All-get_or May c.args.resources.now c.loop-resource.resource-index c.resource-item.result c.loop-resource-test.true c.requires)
