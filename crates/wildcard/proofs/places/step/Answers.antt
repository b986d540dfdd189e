use Rattle.std.proofs.Common.{◌≡◌, ◌+◌, ◌-◌, ◌∙◌, arith, length-set, subst, ℕ}
use Rattle.wildcard.specs.Words.{AreNoted}
use Rattle.wildcard.proofs.Rows.{row_begins}
use Rattle.wildcard.proofs.places.step.Goals as goal

pub loop-row-init : goal.loop-row-init
loop-row-init c = record {
  room = length-set c.args.table.now _ _;
  stands = row_begins c.args.fold c.args.pieces.now c.args.text.now c.args.from c.args.to c.args.table.now c.requires.room c.requires.order c.requires.within c.requires.stands;
}

pub loop-row-preserved : goal.loop-row-preserved
loop-row-preserved c =
    let count : c.args.to - c.args.from ≡ c.args.to - c.args.from - 1 + 1 = let o = c.requires.order in omega arith in
    let part : c.args.to - c.args.from - 1 + 1 + c.args.from ≡ c.args.to = let o = c.requires.order in omega arith in
    record {
      room = c.place_before-row.ensures.room ∙ c.loop-row.invariant.room;
      stands = c.place_before-row.ensures.stands c.args.text.now c.args.from c.args.to c.requires.within part
          (subst (λ (n : ℕ). AreNoted c.args.fold c.args.text.now c.args.to n c.note.new.words) count c.note.ensures) c.loop-row.invariant.stands;
    }
