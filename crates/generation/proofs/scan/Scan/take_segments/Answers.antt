use Rattle.std.proofs.Common.{◌+◌, ◌∙◌, arith, drop}
use Rattle.rule_segments.specs.Segments.{live_among}
use Rattle.rule_spec.specs.State.{live_with}
use Rattle.generation.specs.Block.{lives_in}
use Rattle.generation.specs.Refused.{IsPattern}
use Rattle.generation.proofs.Blocks.{segments_step}
use Rattle.generation.proofs.Pairs.{rest_pairs}
use Rattle.generation.proofs.Walked.{ends_on, walked_more, walked_pattern}
use Rattle.generation.proofs.scan.Scan.take_segments.Goals as goal

pub loop-segment-preserved : goal.loop-segment-preserved
loop-segment-preserved g c =
    let segments = c.args.segments.now in
    let rank = c.args.rank in
    let set = c.args.set.now in
    let place = c.loop-segment.segment-index in
    let lives = lives_in c.of_segment-block.result in
    let rest = live_with rank set (live_among (drop place segments)) in
    let more = live_with rank set (live_among (drop (place + 1) segments)) in
    let cut = segments_step rank set segments place c.segment-item.result lives (omega arith) c.segment-item.is c.of_segment-block.ensures in
    let pairs = rest_pairs rest lives more c.args.self.now.request cut in (
      walked_more c.args.self.now.suffixes c.args.self.now.request c.args.kept (live_with rank set (live_among segments)) lives rest more c.loop-segment.kept c.in-Ok.more
          c.loop-segment.invariant.0 cut c.in-Ok.ensures.kept,
      c.in-Ok.ensures.ends ∙ c.loop-segment.invariant.1,
      omega (arith, pairs, c.in-Ok.ensures.bound, c.loop-segment.invariant.2),
    )

pub returns-in-Err-clause-bound : goal.returns-in-Err-clause-bound
returns-in-Err-clause-bound g c =
    let segments = c.args.segments.now in
    let rank = c.args.rank in
    let set = c.args.set.now in
    let place = c.loop-segment.segment-index in
    let lives = lives_in c.of_segment-block.result in
    let rest = live_with rank set (live_among (drop place segments)) in
    let more = live_with rank set (live_among (drop (place + 1) segments)) in
    let cut = segments_step rank set segments place c.segment-item.result lives (omega arith) c.segment-item.is c.of_segment-block.ensures in
    let pairs = rest_pairs rest lives more c.args.self.now.request cut in
    omega (arith, pairs, c.in-Err.ensures.bound, c.loop-segment.invariant.2)

pub returns-in-Err-clause-ends : goal.returns-in-Err-clause-ends
returns-in-Err-clause-ends g c =
    let segments = c.args.segments.now in
    let rank = c.args.rank in
    let set = c.args.set.now in
    let place = c.loop-segment.segment-index in
    let lives = lives_in c.of_segment-block.result in
    let rest = live_with rank set (live_among (drop place segments)) in
    let more = live_with rank set (live_among (drop (place + 1) segments)) in
    ends_on (IsPattern c.loop-segment.kept.name lives) (IsPattern c.args.kept.name (live_with rank set (live_among segments))) (g.H.RegexHost.faults c.loop-segment.host)
    (g.H.RegexHost.faults c.args.host.now) (g.H.RegexHost.faults c.take_block.new.host) c.in-Err.refusal c.loop-segment.invariant.1
    (walked_pattern c.args.self.now.suffixes c.args.self.now.request c.args.kept (live_with rank set (live_among segments)) lives rest more c.loop-segment.kept c.loop-segment.invariant.0
    (segments_step rank set segments place c.segment-item.result lives (omega arith) c.segment-item.is c.of_segment-block.ensures))
    c.in-Err.ensures.ends
