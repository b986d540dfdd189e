use Rattle.std.proofs.Common.{◌≡◌, ◌∷◌, sym, ap, ◌∙◌}
use Rattle.json.specs.Token.{begin_object}
use Rattle.json.specs.Lex.{tokens}
use Rattle.rules_file.specs.Listed.{is_brace}
use Rattle.rules_file.proofs.Objects.{no_brace, not_utf8, no_members_none}
use Rattle.rules_file.proofs.listed.times_in.Goals as goal

pub returns-in_default-clause-bad : goal.returns-in_default-clause-bad
returns-in_default-clause-bad c = λ _. not_utf8 c.args.bytes.now (λ utf8. absurd (c.in_default.ensures.cases.0 utf8))

pub returns-then-not-opens_object-clause-bad : goal.returns-then-not-opens_object-clause-bad
returns-then-not-opens_object-clause-bad c = λ _.
    let same : tokens c.args.bytes.now ≡ c.in-Ok-new.reader = ap tokens (sym c.in-Ok.ensures.cases.0) ∙ sym c.in-Ok-new.ensures.ok in
    no_brace c.args.bytes.now c.in-Ok.ensures.cases.1 (ap is_brace same ∙ sym c.if-not-opens_object.ensures.is)

pub returns-clause-bad : goal.returns-clause-bad
returns-clause-bad c = λ e.
    let same : tokens c.args.bytes.now ≡ c.in-Ok-new.reader = ap tokens (sym c.in-Ok.ensures.cases.0) ∙ sym c.in-Ok-new.ensures.ok in
    no_members_none c.args.bytes.now c.opens_object.new.reader (same ∙ c.opens_object.ensures.behind c.if-not-opens_object.false) (c.count_members.ensures.bad e)
