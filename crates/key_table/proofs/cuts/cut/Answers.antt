use Rattle.std.proofs.Common.{arith, below_more, ap, ◌∙◌, sym}
use Rattle.key_table.specs.Hash as spec
use Rattle.key_table.proofs.Rising.{cut_here, tag_at}
use Rattle.key_table.proofs.cuts.cut.Goals as goal

pub loop-place-preserved : goal.loop-place-preserved
loop-place-preserved c =
    let tag = tag_at c.args.entries.now c.loop-place.place _ c.loop-place-test.true in
    let bucket = c.bucket_of.ensures.value ∙ sym (ap (spec.bucket_of c.args.buckets) tag) in
    let early = c.if-bucket_of-bucket.true in
    record { within = omega arith; before = below_more _ _ c.loop-place.invariant.before (omega arith) }

pub returns-else-bucket_of-bucket : goal.returns-else-bucket_of-bucket
returns-else-bucket_of-bucket c =
    let tag = tag_at c.args.entries.now c.loop-place.place _ c.loop-place-test.true in
    let bucket = c.bucket_of.ensures.value ∙ sym (ap (spec.bucket_of c.args.buckets) tag) in
    let late = c.if-bucket_of-bucket.false in
    cut_here c.args.buckets c.args.entries.now c.args.bucket c.loop-place.place c.requires.rising c.loop-place-test.true (omega arith) c.loop-place.invariant.before
