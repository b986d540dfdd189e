use Rattle.std.proofs.Common.{◌∙◌, sym}
use Rattle.key_table.proofs.Rest.{rest_is, passed_over}
use Rattle.key_table.proofs.places.PlacesIterator.next.Goals as goal

pub invariant_of-self : goal.invariant_of-self
invariant_of-self c = (rest_is _ _ _ _ _ c.in-Some.ensures.cases.0 c.loop-first.invariant.bucket, c.loop-first.invariant.tag)

pub loop-first-preserved : goal.loop-first-preserved
loop-first-preserved c = record {
  bucket = rest_is _ _ _ _ _ c.in-Some.ensures.cases.0 c.loop-first.invariant.bucket;
  tag = c.loop-first.invariant.tag;
  left = passed_over c.loop-first.self-inside.texts.now c.loop-first.self-inside.asked c.loop-first.self-inside.shown c.loop-first.self-inside.bucket.entries.now c.in-Some.first.now c.in-Some.others.now c.in-Some.ensures.cases.0 (sym c.if-is_near.ensures) ∙ c.loop-first.invariant.left;
}
