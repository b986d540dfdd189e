use Rattle.std.proofs.Common.{◌≡◌, fold, length}
use Rattle.dnr_spec.specs.Domains.{lower_case}
use Rattle.index_spec.specs.Words as spec
use Rattle.rule_index.specs.Needs.{with_bits, places_of_words}
use Rattle.rule_index.specs.Tokens.{tokens_in}
use Rattle.rule_index.proofs.filter_words.read_words.Given as goal

abbrev pub invariant-pieces : goal.invariant-pieces
invariant-pieces l = record {
  bits : with_bits l.read.bits (places_of_words (spec.firm_words l.left l.ends l.rest))
      ≡ with_bits 0 (places_of_words (spec.firm_words l.fn.anchored l.fn.ends l.fn.body));
  longest : fold spec.longer_of (lower_case l.read.longest.now) (tokens_in (spec.firm_words l.left l.ends l.rest))
      ≡ spec.longest_of (tokens_in (spec.firm_words l.fn.anchored l.fn.ends l.fn.body));
}

abbrev pub decreases-pieces : goal.decreases-pieces
decreases-pieces l = length l.rest
