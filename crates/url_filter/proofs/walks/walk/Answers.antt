use Rattle.std.proofs.Common.{rules, arith, ◌≡◌, ◌∙◌, ◌∷◌, [], sym, below_more}
use Rattle.std.proofs.lemmas.Grind.{common_steps}
use Rattle.url_filter.proofs.Pieces.{left_byte, left_end, step_byte, step_end}
use Rattle.url_filter.proofs.walks.walk.Goals as goal
use Rattle.url_filter.proofs.walks.walk.Goals.{in-Some, in-None}

pub loop-i-preserved : goal.loop-i-preserved
loop-i-preserved c =
    elim c.match-split_first.branch [
      | in-Some w ↦
          let e : c.loop-i.rest.now ≡ w.in-Some.field-0-0.now ∷ w.in-Some.later.now = search rules in
          rw w.rest-is (record {
            same = c.loop-i.invariant.same ∙ step_byte _ _ c.args.pattern.now c.loop-i.rest.now w.in-Some.later.now c.loop-i.i w.in-Some.field-0-0.now (search rules) c.if-wanted-eq42.false e (sym w.takes.ensures ∙ w.if-takes.true);
            plain = below_more _ _ c.loop-i.invariant.plain c.if-wanted-eq42.false;
            left = left_byte c.args.text.now c.loop-i.rest.now w.in-Some.later.now c.loop-i.i _ c.loop-i.invariant.left e;
          })
      | in-None w ↦
          let none : c.loop-i.rest.now ≡ [] = grind (arith, common_steps) in
          rw w.rest-is (record {
            same = c.loop-i.invariant.same ∙ step_end _ _ c.args.pattern.now c.loop-i.rest.now c.loop-i.i (search rules) c.if-wanted-eq42.false w.if-wanted-eq94.true none;
            plain = below_more _ _ c.loop-i.invariant.plain c.if-wanted-eq42.false;
            left = left_end c.args.text.now c.loop-i.rest.now c.loop-i.i c.loop-i.invariant.left none;
          })
    ]
