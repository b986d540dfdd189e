use Rattle.std.proofs.Common.{Some, refl, sym}
use Rattle.explain_spec.specs.Explanation.{frame_of}
use Rattle.generation.specs.Hits.{acts_by}
use Rattle.generation.specs.Kept.{with_candidate}
use Rattle.generation.proofs.Outdone.{stays}
use Rattle.generation.proofs.scan.Scan.take_live.Goals as goal

pub returns-then-outdoes-clause-kept : goal.returns-then-outdoes-clause-kept
returns-then-outdoes-clause-kept g c =
    let suffixes = c.args.self.now.suffixes in
    let request = c.args.self.now.request in
    let kept = c.args.kept.now in
    let live = c.args.live in
    let frame = frame_of (Some c.args.part) in
    sym (stays (acts_by suffixes request c.args.part kept live.rule) (with_candidate kept live frame) kept (c.if-outdoes.ensures refl frame))
