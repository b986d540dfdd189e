use Rattle.std.proofs.Common.{◌≡◌, ◌<◌, ◌∙◌, List, ℕ, ap, get_or, length, arith}
use Rattle.abp_compile.specs.Seen.{effect_seen, standing_seen}
use Rattle.abp_compile.proofs.Named.{single_given}
use Rattle.abp_compile.proofs.Drafts.{keeps_single}
use Rattle.abp_compile.proofs.work.Work.keep_singles.Goals as goal

pub keep_single-requires : goal.keep_single-requires
keep_single-requires c =
    let d = c.args.domains.now in
    let i = c.loop-domain.domain-index in
    let domain = c.domain-item.result in
    let same = c.as_slice-domain-items.ensures.value in
    let less : i < length d.nested.items = omega (arith, ap length same) in
    let is : domain ≡ get_or d.nested.items i domain = c.domain-item.is ∙ ap (λ (l : List (List ℕ)). get_or l i domain) same in
    single_given c.loop-domain.id (standing_seen c.args.standing.now) (effect_seen c.args.effect) d.excluded.items d.nested.items i domain c.requires.rules less is (omega arith) (omega arith)

pub loop-domain-preserved : goal.loop-domain-preserved
loop-domain-preserved c =
    let d = c.args.domains.now in
    let i = c.loop-domain.domain-index in
    let domain = c.domain-item.result in
    let same = c.as_slice-domain-items.ensures.value in
    let less : i < length d.nested.items = omega (arith, ap length same) in
    let is : domain ≡ get_or d.nested.items i domain = c.domain-item.is ∙ ap (λ (l : List (List ℕ)). get_or l i domain) same in
    record {
      next = omega arith;
      count = c.in_ok-keep_single.ensures.count ∙ c.loop-domain.invariant.count;
      kept = keeps_single c.args.first c.loop-domain.id (standing_seen c.args.standing.now) (effect_seen c.args.effect) d.excluded.items d.nested.items i domain
          c.args.self.now c.loop-domain.self c.keep_single.new.self c.loop-domain.invariant.next less is c.loop-domain.invariant.kept c.in_ok-keep_single.ensures.kept;
    }
