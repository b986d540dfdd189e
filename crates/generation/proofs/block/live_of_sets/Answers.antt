use Rattle.std.proofs.Common.{◌≡◌, ◌+◌, ◌∙◌, List, sym, ap, arith, slice_get, option_and_then}
use Rattle.rule_spec.specs.State.{RuleSet}
use Rattle.ruleset_store.specs.StaticIndex.{lists_of, place_in}
use Rattle.generation.specs.Block.{set_there}
use Rattle.generation.proofs.Blocks.{place_there, there_by}
use Rattle.generation.proofs.block.live_of_sets.Goals as goal

pub returns-in-Some : goal.returns-in-Some
returns-in-Some c =
    let sets : List RuleSet = c.args.extension.now.sets in
    let at : c.find.result ≡ place_in 0 (lists_of sets) c.args.place = c.find.ensures (lists_of sets) c.static_index.ensures in
    c.live_of_number.ensures
    ∙ ap (λ (s : List RuleSet). option_and_then (λ set. set_there c.in-Some.number set c.in-Some.place) (slice_get s c.in-Some.number)) c.sets.ensures
    ∙ ap (there_by (slice_get sets)) (sym c.in-Some.is ∙ at)
    ∙ place_there 0 sets (slice_get sets) c.args.place (λ k. let e : 0 + k ≡ k = omega arith in ap (slice_get sets) e)

pub returns-in-None : goal.returns-in-None
returns-in-None c =
    let sets : List RuleSet = c.args.extension.now.sets in
    let at : c.find.result ≡ place_in 0 (lists_of sets) c.args.place = c.find.ensures (lists_of sets) c.static_index.ensures in
    ap (there_by (slice_get sets)) (sym c.in-None.is ∙ at)
    ∙ place_there 0 sets (slice_get sets) c.args.place (λ k. let e : 0 + k ≡ k = omega arith in ap (slice_get sets) e)
