use Rattle.std.proofs.Common.{◌≤◌, ◌+◌, ◌*◌, ◌^◌, ℕ, length, sym, subst, arith}
use Rattle.std.specs.List.{flat_map}
use Rattle.generation.specs.Plain.{rules_of}
use Rattle.generation.proofs.MostSegments.{most_first, most_last, most_next}
use Rattle.generation.proofs.Pieces.{few_of_two}
use Rattle.generation.proofs.PlainRules.{few_more, rules_within}
use Rattle.generation.proofs.segments.most_segments.Goals as goal

pub loop-extension-init : goal.loop-extension-init
loop-extension-init c = record { most = most_first c.args.extensions.now; few = omega arith }

pub loop-extension-preserved : goal.loop-extension-preserved
loop-extension-preserved c =
    let extensions = c.args.extensions.now in
    let extension = c.extension-item.result in
    let within = rules_within extensions extension (c.loop-extension.extension-index, omega arith, sym c.extension-item.is) in
    let most = 2 * length (flat_map rules_of extensions) + 1 in
    record {
      most = most_next extensions c.loop-extension.extension-index extension c.segments_of.result c.loop-extension.most c.max-most.result (omega arith) c.extension-item.is
          c.segments_of.ensures.most c.max-most.ensures c.loop-extension.invariant.most;
      few = subst (λ (n : ℕ). 2 ^ n ≤ most) (sym c.max-most.ensures)
          (few_of_two c.segments_of.result c.loop-extension.most most (few_more c.segments_of.result (length (rules_of extension)) (length (flat_map rules_of extensions)) c.segments_of.ensures.few within) c.loop-extension.invariant.few);
    }

pub returns-clause-most : goal.returns-clause-most
returns-clause-most c = most_last c.args.extensions.now c.loop-extension.extension-index c.loop-extension.most (omega arith) c.loop-extension.invariant.most
