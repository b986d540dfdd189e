use Rattle.std.proofs.Common.{ℕ, Option, subst}
use Rattle.std.proofs.lemmas.List.{take_rest}
use Rattle.memchr.specs.Find.{IsFirstByte, is_byte}
use Rattle.abp_parse.proofs.Separators.{no_sign, sign_at}
use Rattle.abp_parse.proofs.hiding.next_sign.Goals as goal

pub returns-in-Some : goal.returns-in-Some
returns-in-Some c =
    rw take_rest (sign_at c.args.text.now c.in-Some.place (subst (λ (r : Option ℕ). IsFirstByte (is_byte 35) c.args.text.now r) c.in-Some.is c.memchr.ensures))

pub returns-in-None : goal.returns-in-None
returns-in-None c = no_sign c.args.text.now (subst (λ (r : Option ℕ). IsFirstByte (is_byte 35) c.args.text.now r) c.in-None.is c.memchr.ensures)
