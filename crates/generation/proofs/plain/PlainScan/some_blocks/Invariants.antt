use Rattle.std.proofs.Common.{◌≡◌, ◌≤◌, ◌+◌, drop}
use Rattle.std.specs.List.{flat_map}
use Rattle.index_spec.specs.Pairs.{pairs_of_rules}
use Rattle.generation.specs.Plain.{rules_of, some_blocks}
use Rattle.generation.proofs.plain.PlainScan.some_blocks.Given as goal

abbrev pub invariant-loop-extension : goal.invariant-loop-extension
invariant-loop-extension g l = record {
  rest : some_blocks l.self.suffixes l.self.request (drop l.extension-index l.extensions) ≡ some_blocks l.self.suffixes l.self.request l.extensions;
  few : l.steps + pairs_of_rules (flat_map rules_of (drop l.extension-index l.extensions)) l.self.request ≤ l.fn.steps + pairs_of_rules (flat_map rules_of l.extensions) l.self.request;
}
