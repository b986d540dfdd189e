use Rattle.std.proofs.Common.{◌≡◌, take}
use Rattle.std.specs.List.{fold}
use Rattle.dnr_base.specs.KindSet.{kinds_of}
use Rattle.list_spec.specs.Options.{without_type}
use Rattle.abp_parse.proofs.asked.without_kinds.Given as goal

abbrev pub invariant-loop-kind : goal.invariant-loop-kind
invariant-loop-kind l = kinds_of l.kinds ≡ fold without_type (kinds_of l.initial.kinds) (take l.kind-index l.these)
