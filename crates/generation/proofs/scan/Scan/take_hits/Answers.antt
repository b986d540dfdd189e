use Rattle.std.proofs.Common.{◌<◌, ◌∙◌, length, get_or, option_to_list, arith}
use Rattle.generation.specs.Block.{live_there, lives_in}
use Rattle.generation.specs.Refused.{IsPattern}
use Rattle.generation.proofs.Served.{counts_step, hit_pattern, hits_step, next_name}
use Rattle.generation.proofs.Walked.{ends_on}
use Rattle.generation.proofs.scan.Scan.take_hits.Goals as goal

pub loop-hit-preserved : goal.loop-hit-preserved
loop-hit-preserved g c =
    let suffixes = c.args.self.now.suffixes in
    let request = c.args.self.now.request in
    let block = c.args.block.now in
    let hits = c.args.hits.now in
    let place = c.loop-hit.hit-index in
    let within : place < length hits = omega arith in
    let counts = counts_step block hits place (0, 0) within in
    record {
      kept = hits_step suffixes request block hits place (0, 0) c.loop-hit.kept c.take_hit.new.kept within c.in-Ok.ensures.kept ∙ c.loop-hit.invariant.kept;
      name = next_name suffixes request block c.loop-hit.kept c.take_hit.new.kept (get_or hits place (0, 0)) c.in-Ok.ensures.kept ∙ c.loop-hit.invariant.name;
      few = omega (arith, counts, c.in-Ok.ensures.few, c.loop-hit.invariant.few);
      calm = c.in-Ok.ensures.ends ∙ c.loop-hit.invariant.calm;
    }

pub returns-in-Err-clause-ends : goal.returns-in-Err-clause-ends
returns-in-Err-clause-ends g c =
    let block = c.args.block.now in
    let hit = get_or c.args.hits.now c.loop-hit.hit-index (0, 0) in
    ends_on (IsPattern c.loop-hit.kept.name (option_to_list (live_there block hit.0))) (IsPattern c.args.kept.name (lives_in block)) (g.H.RegexHost.faults c.loop-hit.host)
    (g.H.RegexHost.faults c.args.host.now) (g.H.RegexHost.faults c.take_hit.new.host) c.in-Err.refusal c.loop-hit.invariant.calm
    (hit_pattern block hit.0 c.loop-hit.kept.name c.args.kept.name c.loop-hit.invariant.name)
    c.in-Err.ensures.ends
