use Rattle.std.proofs.Common.{◌-◌, length, ap, ◌∙◌}
use Rattle.std.proofs.lemmas.Bool.{false≢true}
use Rattle.key_table.specs.Hash as spec
use Rattle.key_table.proofs.Between.{places_between_starts}
use Rattle.key_table.proofs.Rest.{part_are}
use Rattle.key_table.proofs.bucket.find_bucket.Goals as goal

pub returns : goal.returns
returns c = record {
  is = record { all = rw c.part-own.ensures (part_are c.args.texts.now c.args.entries.now _ _ c.requires.kept.all); sure = λ no. absurd (false≢true no) };
  places = λ shown. rw c.part-own.ensures (places_between_starts c.args.texts.now c.args.asked.now shown c.args.entries.now c.args.starts.now c.bucket_of-bucket.result c.requires.kept
      (c.bucket_of-bucket.ensures.value ∙ ap (spec.bucket_of (length c.args.starts.now - 1)) c.requires.tag) c.bucket_of-bucket.ensures.within);
}

pub returns-then-own-gt-LONG : goal.returns-then-own-gt-LONG
returns-then-own-gt-LONG c = record {
  is = c.searched.ensures.is;
  places = λ shown. c.searched.ensures.places shown
      ∙ (rw c.part-own.ensures (places_between_starts c.args.texts.now c.args.asked.now shown c.args.entries.now c.args.starts.now c.bucket_of-bucket.result c.requires.kept
      (c.bucket_of-bucket.ensures.value ∙ ap (spec.bucket_of (length c.args.starts.now - 1)) c.requires.tag) c.bucket_of-bucket.ensures.within));
}
