use Rattle.std.proofs.Common.{◌≡◌, ◌++◌, string_bytes}
use Rattle.std.specs.Option.{option_map}
use Rattle.dnr_spec.specs.Hosts.{labels_of}
use Rattle.dnr_spec.specs.Suffixes.{read_labels}
use Rattle.suffix_list.proofs.Cuts.{labels_behind, rest_len}
use Rattle.suffix_list.proofs.read.read_labels.Given as goal

abbrev pub invariant-loop-rest : goal.invariant-loop-rest
invariant-loop-rest l = read_labels (labels_of l.word) ≡ option_map (λ more. labels_of (string_bytes l.text) ++ more) (read_labels (labels_behind l.rest))

abbrev pub decreases-loop-rest : goal.decreases-loop-rest
decreases-loop-rest l = rest_len l.rest
