use Rattle.std.proofs.Common.{◌≡◌, false, sym, ◌∙◌, subst}
use Rattle.json_fields.proofs.Keeping.{null_is}
use Rattle.request_parts.specs.SaysAs.{SaysAs}
use Rattle.script_read.specs.Fields.{has_parts}
use Rattle.script_read.proofs.PartsRead.{none_say}
use Rattle.script_read.proofs.parts.parts_in.Goals as goal

pub returns-then-not-has_parts : goal.returns-then-not-has_parts
returns-then-not-has_parts c =
    let of = c.requires.given in
    let none : has_parts c.args.fields.now ≡ false = sym c.has_parts.ensures ∙ c.if-not-has_parts.true in
    (of.d, of.is, subst (λ kept. SaysAs kept of.d) (sym null_is) (none_say c.args.bytes.now c.args.fields.now of none))
