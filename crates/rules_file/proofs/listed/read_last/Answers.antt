use Rattle.std.proofs.Common.{◌≡◌, ◌∷◌, sym, ap, ◌∙◌}
use Rattle.json.specs.Lex.{tokens}
use Rattle.rules_file.proofs.Objects.{listed_all, no_members_none}
use Rattle.rules_file.proofs.listed.read_last.Goals as goal

pub returns-clause-read : goal.returns-clause-read
returns-clause-read g c =
    let same : tokens c.args.bytes.now ≡ c.in-Ok-new.reader = ap tokens (sym c.in-Ok.ensures.cases.0) ∙ sym c.in-Ok-new.ensures.ok in
    listed_all c.args.kind c.args.bytes.now c.args.name.now c.opens_object.new.reader c.read_member.new.reader _ c.read_member.result c.in-Ok.ensures.cases.1
    (same ∙ c.opens_object.ensures.behind c.if-not-opens_object.false) c.read_member.ensures.read

pub returns-clause-bad : goal.returns-clause-bad
returns-clause-bad g c = λ e.
    let same : tokens c.args.bytes.now ≡ c.in-Ok-new.reader = ap tokens (sym c.in-Ok.ensures.cases.0) ∙ sym c.in-Ok-new.ensures.ok in
    no_members_none c.args.bytes.now c.opens_object.new.reader (same ∙ c.opens_object.ensures.behind c.if-not-opens_object.false) (c.read_member.ensures.bad e)
