use Rattle.std.proofs.Common.{ap, ◌∙◌, ◌||◌, filter}
use Rattle.dnr_base.specs.declared.kind.Kind.TheVariants.{MainFrame, SubFrame}
use Rattle.dnr_base.specs.Kind.{all_kinds, same_kind, has_kind}
use Rattle.abp_compile.proofs.effects.pages.Goals as goal

pub returns : goal.returns
returns c =
    c.insert-2.ensures.list
    ∙ ap (λ kinds. filter (λ other. same_kind SubFrame other || has_kind kinds other) all_kinds)
    (c.insert.ensures.list ∙ ap (λ kinds. filter (λ other. same_kind MainFrame other || has_kind kinds other) all_kinds) c.empty-kinds.ensures)
