use Rattle.std.proofs.Common.{List, ℕ, sym, subst}
use Rattle.rule_spec.specs.IsRule.{AreDomains}
use Rattle.abp_compile.proofs.Named.{others_named, excluded_named}
use Rattle.abp_compile.proofs.initiators.Parted.common.Goals as goal

pub set_if_any-requires : goal.set_if_any-requires
set_if_any-requires c =
    let d = c.args.self.now in
    subst (λ (l : List (List ℕ)). AreDomains l) (sym c.as_slice.ensures.value) (others_named d.excluded.items d.others.items d.nested.items c.requires.named c.requires.one)

pub set_of-requires : goal.set_of-requires
set_of-requires c =
    let d = c.args.self.now in
    subst (λ (l : List (List ℕ)). AreDomains l) (sym c.as_slice-2.ensures.value) (excluded_named d.excluded.items d.others.items d.nested.items c.requires.named c.requires.one)
