use Rattle.std.proofs.Common.{◌∙◌, sym, arith}
use Rattle.generation.specs.Plain.{rules_of}
use Rattle.generation.proofs.Pieces.{none_yet, pairs_next, piece_is_plain}
use Rattle.generation.proofs.plain.PlainScan.some_blocks.Goals as goal

pub blocks-requires : goal.blocks-requires
blocks-requires g c = piece_is_plain rules_of c.args.extensions.now c.loop-extension.extension-index c.extension-item.result (omega arith) c.extension-item.is c.requires

pub returns-then-blocks-clause-bound : goal.returns-then-blocks-clause-bound
returns-then-blocks-clause-bound g c =
    let more = pairs_next rules_of c.args.self.now.request c.args.extensions.now c.loop-extension.extension-index c.extension-item.result c.loop-extension.steps c.blocks-in-loop-extension.new.steps _
    (omega arith) c.extension-item.is c.blocks-in-loop-extension.ensures.bound c.loop-extension.invariant.few in
    omega (arith, more)

pub loop-extension-preserved : goal.loop-extension-preserved
loop-extension-preserved g c = record {
  rest = none_yet c.args.self.now.suffixes c.args.self.now.request c.args.extensions.now c.loop-extension.extension-index c.extension-item.result _
      (omega arith) c.extension-item.is (sym c.blocks-in-loop-extension.ensures.value ∙ c.if-blocks.false) c.loop-extension.invariant.rest;
  few = pairs_next rules_of c.args.self.now.request c.args.extensions.now c.loop-extension.extension-index c.extension-item.result c.loop-extension.steps c.blocks-in-loop-extension.new.steps _
      (omega arith) c.extension-item.is c.blocks-in-loop-extension.ensures.bound c.loop-extension.invariant.few;
}
