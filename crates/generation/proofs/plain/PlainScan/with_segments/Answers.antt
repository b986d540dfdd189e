use Rattle.std.proofs.Common.{◌∙◌, ap, arith}
use Rattle.std.specs.Prelude.{max}
use Rattle.index_spec.specs.Pairs.{pairs_of_rules}
use Rattle.rule_segments.specs.Segments.{live_in}
use Rattle.generation.specs.Plain.{are_plain, greatest, level_in}
use Rattle.generation.proofs.Pieces.{level_next, pairs_next, piece_is_plain}
use Rattle.generation.proofs.plain.PlainScan.with_segments.Goals as goal

pub with_block-best-requires : goal.with_block-best-requires
with_block-best-requires g c =
    ap are_plain c.of_segment-block.ensures
    ∙ piece_is_plain live_in c.args.segments.now c.loop-segment.segment-index c.segment-item.result (omega arith) c.segment-item.is c.requires

pub loop-segment-preserved : goal.loop-segment-preserved
loop-segment-preserved g c =
    let suffixes = c.args.self.now.suffixes in
    let request = c.args.self.now.request in
    let segments = c.args.segments.now in
    let place = c.loop-segment.segment-index in
    let segment = c.segment-item.result in
    let best = level_in c.loop-segment.best in
    let level = c.with_block-best.ensures.level ∙ ap (λ rules. max best (greatest suffixes request rules)) c.of_segment-block.ensures in
    let pairs = ap (λ rules. pairs_of_rules rules request) c.of_segment-block.ensures in
    record {
      level = level_next live_in suffixes request segments place segment best (level_in c.with_block-best.result) _ (omega arith) c.segment-item.is level c.loop-segment.invariant.level;
      few = pairs_next live_in request segments place segment c.loop-segment.steps c.with_block-best.new.steps _ (omega arith) c.segment-item.is
          (omega (arith, pairs, c.with_block-best.ensures.bound)) c.loop-segment.invariant.few;
    }
