use Rattle.std.proofs.Common.{◌≡◌, ◌∙◌, List, sym, ap, subst}
use Rattle.compile_spec.specs.Initiators.{Initiators, initiators_of}
use Rattle.compile_spec.specs.Compiled.{Draft}
use Rattle.abp_compile.specs.Seen.{effect_seen, standing_seen, parted_seen}
use Rattle.abp_compile.specs.Work.{drafts, GiveRules, Gains}
use Rattle.abp_compile.proofs.Drafts.{gains_twice, both_drafts, on_ok}
use Rattle.abp_compile.proofs.work.Work.add.Goals as goal

pub add_last-requires : goal.add_last-requires
add_last-requires c =
    let s = standing_seen c.args.standing in
    let effect = effect_seen c.in-One.effect in
    subst (λ (l : List Initiators). GiveRules s effect l) (sym (c.in_ok-domains.ensures ∙ ap initiators_of c.as_slice.ensures)) (c.requires effect)

pub add_effect-requires : goal.add_effect-requires
add_effect-requires c =
    let s = standing_seen c.args.standing in
    let effect = effect_seen c.in-Both.first in
    subst (λ (l : List Initiators). GiveRules s effect l) (sym (c.in_ok-domains.ensures ∙ ap initiators_of c.as_slice.ensures)) (c.requires effect)

pub add_last-requires-in-Both : goal.add_last-requires-in-Both
add_last-requires-in-Both c =
    let s = standing_seen c.args.standing in
    let effect = effect_seen c.in-Both.second in
    subst (λ (l : List Initiators). GiveRules s effect l) (sym (c.in_ok-domains.ensures ∙ ap initiators_of c.as_slice.ensures)) (c.requires effect)

pub returns-in_ok-add_effect-in-Both : goal.returns-in_ok-add_effect-in-Both
returns-in_ok-add_effect-in-Both c =
    let s = standing_seen c.args.standing in
    let one = effect_seen c.in-Both.first in
    let other = effect_seen c.in-Both.second in
    let list = parted_seen c.in_ok-domains.domains in
    let before = c.args.self.now in
    let mid = c.add_effect.new.self in
    let now = c.add_last-in-Both.new.self in
    let is : list ≡ initiators_of s.filter.domains = c.in_ok-domains.ensures ∙ ap initiators_of c.as_slice.ensures in
    on_ok c.add_last-in-Both.result
    (λ (second : Gains (drafts s other list) mid now).
    subst (λ (more : List Draft). Gains more before now) (both_drafts s one other list c.in-Both.ensures is)
    (gains_twice (drafts s one list) (drafts s other list) before mid now c.in_ok-add_effect-in-Both.ensures second))
    c.add_last-in-Both.ensures
