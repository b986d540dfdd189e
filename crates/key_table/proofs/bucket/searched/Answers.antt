use Rattle.std.proofs.Common.{arith, ◌∙◌}
use Rattle.std.proofs.lemmas.Bool.{false≢true}
use Rattle.key_table.proofs.Between.{places_with_tag}
use Rattle.key_table.proofs.Rest.{part_are}
use Rattle.key_table.proofs.Search.{entries_rise}
use Rattle.key_table.proofs.bucket.searched.Goals as goal

pub tag_start-start-requires : goal.tag_start-start-requires
tag_start-start-requires c = entries_rise c.args.texts.now c.args.entries.now c.requires.rising

pub tag_end-requires : goal.tag_end-requires
tag_end-requires c = entries_rise c.args.texts.now c.args.entries.now c.requires.rising

pub returns-then-are_of : goal.returns-then-are_of
returns-then-are_of c = record {
  is = record { all = rw c.part-own.ensures (part_are c.args.texts.now c.args.entries.now c.tag_start-start.result c.max-end.result c.requires.all); sure = λ is_sure. c.if-are_of.ensures is_sure };
  places = λ shown. rw c.part-own.ensures (places_with_tag c.args.texts.now c.args.asked.now c.args.tag shown c.args.entries.now c.tag_start-start.result c.max-end.result
      c.requires.all c.requires.tag (omega arith) c.tag_start-start.ensures.within c.tag_start-start.ensures.below
      (λ k entry from inside. c.tag_end.ensures.above k entry (omega arith) inside));
}

pub returns : goal.returns
returns c = record {
  is = record { all = c.with_key.ensures.entries; sure = λ no. absurd (false≢true no) };
  places = λ shown. c.with_key.ensures.places shown
      ∙ (rw c.part-own.ensures (places_with_tag c.args.texts.now c.args.asked.now c.args.tag shown c.args.entries.now c.tag_start-start.result c.max-end.result
      c.requires.all c.requires.tag (omega arith) c.tag_start-start.ensures.within c.tag_start-start.ensures.below
      (λ k entry from inside. c.tag_end.ensures.above k entry (omega arith) inside)));
}
