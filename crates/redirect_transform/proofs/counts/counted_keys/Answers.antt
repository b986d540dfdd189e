use Rattle.std.specs.Str.{bytes_eq}
use Rattle.std.proofs.Common.{◌∙◌}
use Rattle.dnr_base.specs.declared.query_pair.QueryPair.{QueryPair}
use Rattle.redirect_transform.proofs.Steps.{filter_count}
use Rattle.redirect_transform.proofs.counts.counted_keys.Goals as goal

pub returns : goal.returns
returns c = λ key.
    c.loop-pair.invariant key ∙ filter_count (λ (pair : QueryPair). bytes_eq key pair.key) c.args.pairs.now c.loop-pair.pair-index c.loop-pair-test.false
