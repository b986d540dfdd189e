use Rattle.std.proofs.Common.{◌≡◌, ◌++◌, map, take, string_bytes}
use Rattle.dnr_base.specs.Kind.{has_kind}
use Rattle.dnr_base.specs.KindSet.{kinds_of}
use Rattle.abp_compile.specs.Alike.{mark}
use Rattle.abp_compile.proofs.alike.push_types.Given as goal

abbrev pub invariant-loop-kind : goal.invariant-loop-kind
invariant-loop-kind l = string_bytes l.text ≡ string_bytes l.fn.text ++ map (λ kind. mark (has_kind (kinds_of l.kinds) kind)) (take l.kind-index l.these)
