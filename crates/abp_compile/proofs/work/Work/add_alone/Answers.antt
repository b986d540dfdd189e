use Rattle.std.proofs.Common.{◌≡◌, ◌+◌, ◌++◌, ◌∷◌, ◌≤◌, [], length, sym, ap, ◌∙◌, subst, arith, List}
use Rattle.std.proofs.lemmas.List.{append-nil}
use Rattle.compile_spec.specs.Initiators.{Initiators}
use Rattle.abp_compile.specs.Seen.{standing_seen, effect_seen, initiators_seen, in_common_of, singles_of, parted_seen}
use Rattle.abp_compile.specs.Work.{drafts, Keeps}
use Rattle.abp_compile.proofs.Named.{alone_one, all_named, give_left, only_given}
use Rattle.abp_compile.proofs.Drafts.{gains_effect}
use Rattle.abp_compile.proofs.work.Work.add_alone.Goals as goal

pub common-requires-clause-one : goal.common-requires-clause-one
common-requires-clause-one c =
    let d = c.args.domains.now in
    alone_one d.excluded.items d.others.items d.nested.items c.requires.alone

pub common-requires-clause-named : goal.common-requires-clause-named
common-requires-clause-named c =
    let d = c.args.domains.now in
    let s = standing_seen c.args.standing in
    all_named s (effect_seen c.args.effect) (in_common_of d) (give_left s (effect_seen c.args.effect) (in_common_of d) (singles_of d) c.requires.rules)

pub keep_last-requires : goal.keep_last-requires
keep_last-requires c =
    let d = c.args.domains.now in
    let s = standing_seen c.args.standing in
    let is : parted_seen d ≡ initiators_seen c.in_ok-initiators.initiators ∷ [] =
    ap (λ more. in_common_of d ++ more) c.requires.alone ∙ append-nil (in_common_of d) ∙ c.in_ok-initiators.ensures in
    let one : length (parted_seen d) ≡ 1 = ap length is in
    let few : c.args.self.now.count + 1 ≤ 300000 = omega (arith, one, c.count.ensures, c.in-Some.ensures) in
    only_given (c.args.self.now.count + 1) s (effect_seen c.args.effect) (in_common_of d) (initiators_seen c.in_ok-initiators.initiators)
    (give_left s (effect_seen c.args.effect) (in_common_of d) (singles_of d) c.requires.rules) c.in_ok-initiators.ensures (omega arith) few

pub returns : goal.returns
returns c =
    let d = c.args.domains.now in
    let list = parted_seen d in
    let s = standing_seen c.args.standing in
    let effect = effect_seen c.args.effect in
    let is : list ≡ initiators_seen c.in_ok-initiators.initiators ∷ [] =
    ap (λ more. in_common_of d ++ more) c.requires.alone ∙ append-nil (in_common_of d) ∙ c.in_ok-initiators.ensures in
    let count : c.keep_last.new.self.count ≡ c.args.self.now.count + length list = omega (arith, c.in_ok-keep_last.ensures.count, c.count.ensures, c.in-Some.ensures) in
    let kept = c.in_ok-keep_last.ensures.kept in
    gains_effect s effect list c.args.self.now c.keep_last.new.self count
    (λ few. subst (λ (l : List Initiators). Keeps (c.args.self.now.count + 1) (drafts s effect l) c.args.self.now c.keep_last.new.self) (sym is)
    (record { rules = kept.rules; origins = kept.origins }))
