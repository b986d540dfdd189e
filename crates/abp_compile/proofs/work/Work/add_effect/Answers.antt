use Rattle.std.proofs.Common.{◌≡◌, ◌+◌, length, ap, arith}
use Rattle.abp_compile.specs.Seen.{standing_seen, effect_seen, in_common_of, singles_of, parted_seen}
use Rattle.abp_compile.proofs.Named.{give_left, give_right}
use Rattle.abp_compile.proofs.Drafts.{gains_effect, keeps_both}
use Rattle.abp_compile.proofs.work.Work.add_effect.Goals as goal

pub keep_common-requires-clause-rules : goal.keep_common-requires-clause-rules
keep_common-requires-clause-rules c =
    let d = c.args.domains.now in
    give_left (standing_seen c.args.standing.now) (effect_seen c.args.effect) (in_common_of d) (singles_of d) c.requires

pub keep_singles-requires-clause-rules : goal.keep_singles-requires-clause-rules
keep_singles-requires-clause-rules c =
    let d = c.args.domains.now in
    give_right (standing_seen c.args.standing.now) (effect_seen c.args.effect) (in_common_of d) (singles_of d) c.requires

pub returns : goal.returns
returns c =
    let d = c.args.domains.now in
    let list = parted_seen d in
    let s = standing_seen c.args.standing.now in
    let effect = effect_seen c.args.effect in
    let count : c.keep_singles.new.self.count ≡ c.args.self.now.count + length list = omega (arith, c.in_ok-keep_singles.ensures.count, c.in_ok-keep_common.ensures.count, c.count.ensures, c.in-Some.ensures) in
    let kept = c.in_ok-keep_common.ensures.kept in
    gains_effect s effect list c.args.self.now c.keep_singles.new.self count
    (λ few. keeps_both (c.args.self.now.count + 1) ((c.args.self.now.count + 1) + c.common_count.result) s effect (in_common_of d) (singles_of d) c.args.self.now c.keep_common.new.self c.keep_singles.new.self
    (ap (λ n. (c.args.self.now.count + 1) + n) c.common_count.ensures) (record { rules = kept.rules; origins = kept.origins }) c.in_ok-keep_singles.ensures.kept)
