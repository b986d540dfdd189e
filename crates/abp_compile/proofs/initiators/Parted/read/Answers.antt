use Rattle.std.proofs.Common.{◌≡◌, ◌∙◌, ap, take, arith}
use Rattle.std.proofs.lemmas.List.{take_all}
use Rattle.compile_spec.specs.Initiators.{nested, not_nested, excluded_in, listed_in}
use Rattle.abp_compile.proofs.Parts.{parts}
use Rattle.abp_compile.proofs.initiators.Parted.read.Goals as goal

pub returns : goal.returns
returns c =
    let entries = c.args.entries.now in
    let ex = c.in_ok-excluded.excluded.list.items in
    let li = c.as_slice-domain-items.result.now in
    let x : ex ≡ excluded_in entries = c.in_ok-excluded.ensures.list in
    let l : li ≡ listed_in entries = c.as_slice-domain-items.ensures.value ∙ c.in_ok-listed.ensures.list in
    let all : take c.loop-domain.domain-index li ≡ li = take_all c.loop-domain.domain-index li (omega arith) in
    parts entries c.into_list-excluded.result.items c.loop-domain.others.items c.loop-domain.nested.items
    (c.into_list-excluded.ensures ∙ x)
    (c.loop-domain.invariant.others ∙ ap (not_nested ex) (all ∙ l) ∙ ap (λ e. not_nested e (listed_in entries)) x)
    (c.loop-domain.invariant.nested ∙ ap (nested ex) (all ∙ l) ∙ ap (λ e. nested e (listed_in entries)) x)
