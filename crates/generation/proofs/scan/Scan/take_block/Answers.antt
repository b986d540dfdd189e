use Rattle.std.proofs.Common.{◌≡◌, ◌∙◌, sym, ap, fold, arith}
use Rattle.std.proofs.lemmas.Result.{IfOk-weaker}
use Rattle.generation.specs.Block.{listed_in, lives_in}
use Rattle.generation.specs.Hits.{AreHits, with_hit}
use Rattle.generation.specs.Kept.{with_lives}
use Rattle.generation.proofs.Pairs.{hits_few}
use Rattle.generation.proofs.Served.{block_served, moved}
use Rattle.generation.proofs.scan.Scan.take_block.Goals as goal

pub returns-in-Ok-clause-kept : goal.returns-in-Ok-clause-kept
returns-in-Ok-clause-kept g c =
    let suffixes = c.args.self.now.suffixes in
    let request = c.args.self.now.request in
    let block = c.args.block.now in
    let hits = c.as_slice.result.now in
    let same = sym c.self.invariant.0 ∙ ap (λ p. p.request) c.self.view_is in
    let are : AreHits (listed_in block) request hits = moved (listed_in block) c.self.inside.request.now request c.find.new.hits.items hits same c.as_slice.ensures.value c.in-Ok.ensures in
    IfOk-weaker c.take_hits.result (λ new. new ≡ fold (with_hit suffixes request block) c.args.kept hits) (λ new. new ≡ with_lives suffixes request c.args.kept (lives_in block))
    (λ new is. is ∙ block_served suffixes request block hits c.args.kept are) c.take_hits.ensures.kept

pub returns-in-Ok-clause-bound : goal.returns-in-Ok-clause-bound
returns-in-Ok-clause-bound g c =
    let request = c.args.self.now.request in
    let block = c.args.block.now in
    let hits = c.as_slice.result.now in
    let same = sym c.self.invariant.0 ∙ ap (λ p. p.request) c.self.view_is in
    let are : AreHits (listed_in block) request hits = moved (listed_in block) c.self.inside.request.now request c.find.new.hits.items hits same c.as_slice.ensures.value c.in-Ok.ensures in
    let few = hits_few block request hits are in
    omega (arith, few, c.take_hits.ensures.few)
