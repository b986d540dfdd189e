use Rattle.std.proofs.Common.{rules, ◌<◌, not, nat_eq, slice_index_or, bit_and, refl}
use Rattle.std.proofs.lemmas.Bool.{agree_below_at}
use Rattle.url_view.specs.Plain as spec
use Rattle.url_view.specs.declared.bytes.TheConstants.{CLASSES}
use Rattle.url_view.proofs.bytes.is_fragment_byte.Goals as goal

pub returns : goal.returns
returns c =
    let byte : c.args.byte < 256 = search rules in
    agree_below_at (λ b. not (nat_eq (bit_and (slice_index_or CLASSES b 0) 8) 0)) spec.is_fragment_byte 256 c.args.byte refl byte
