use Rattle.std.proofs.Common.{◌≡◌, ◌+◌, ◌∙◌, ap, sym, true, false, cond, take, string_bytes}
use Rattle.std.specs.Str.{bytes_eq}
use Rattle.dnr_base.specs.declared.query_pair.QueryPair.{QueryPair}
use Rattle.redirect_transform.specs.Counter.{count_of}
use Rattle.redirect_transform.proofs.Steps.{count_next}
use Rattle.redirect_transform.proofs.Pieces.{append_next, told}
use Rattle.redirect_transform.proofs.query.push_left_over.Goals as goal
use Rattle.redirect_transform.proofs.query.push_left_over.Goals.{then-is_appended+in_ok-push_pair, else-is_appended}

pub loop-pair-preserved : goal.loop-pair-preserved
loop-pair-preserved c =
    let pair = c.pair-item.result in
    let i = c.loop-pair.pair-index in
    let pairs = c.args.pairs.now in
    let count = count_of c.args.counts.now in
    let first = string_bytes c.args.query.now in
    let query = string_bytes c.loop-pair.query in
    let number = count_of c.loop-pair.before pair.key in (
      elim c.if-is_appended.branch [
        | then-is_appended+in_ok-push_pair w ↦ append_next count pairs i pair first query _ true c.loop-pair-test.true c.pair-item.is c.loop-pair.invariant.0 (told count (take i pairs) pair number _ true c.is_appended.ensures (c.loop-pair.invariant.1 pair.key) w.if-is_appended.true) (ap string_bytes w.query-is ∙ w.in_ok-push_pair.ensures)
        | else-is_appended w ↦ append_next count pairs i pair first query _ false c.loop-pair-test.true c.pair-item.is c.loop-pair.invariant.0 (told count (take i pairs) pair number _ false c.is_appended.ensures (c.loop-pair.invariant.1 pair.key) w.if-is_appended.false) (ap string_bytes w.query-is)
      ],
      λ key. c.in_ok-add.ensures key ∙ ap (λ t. count_of c.loop-pair.before key + cond (bytes_eq key t) 1 0) c.as_str.ensures ∙ ap (λ n. n + cond (bytes_eq key pair.key) 1 0) (c.loop-pair.invariant.1 key) ∙ sym (count_next (λ (p : QueryPair). bytes_eq key p.key) pairs i pair c.loop-pair-test.true c.pair-item.is),
    )
