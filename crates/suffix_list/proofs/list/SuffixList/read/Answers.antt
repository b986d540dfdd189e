use Rattle.std.proofs.Common.{◌≡◌, List, Ok, sym, ap, ◌∙◌}
use Rattle.std.proofs.lemmas.Result.{err_from_is_err_and}
use Rattle.dnr_spec.specs.Suffixes.{SuffixRule, read_suffixes}
use Rattle.suffix_list.specs.Reading.{read_text}
use Rattle.suffix_list.proofs.Registrable.{no_text, of_text}
use Rattle.suffix_list.proofs.Text.{refused_as}
use Rattle.suffix_list.proofs.list.SuffixList.read.Goals as goal

pub returns-in_default-clause-refused : goal.returns-in_default-clause-refused
returns-in_default-clause-refused c = no_text c.args.bytes.now c.in_default.ensures.cases.0

pub returns-in_err-rules-clause-refused : goal.returns-in_err-rules-clause-refused
returns-in_err-rules-clause-refused c =
    let p = err_from_is_err_and c.from_residual.result c.from_residual.ensures.1 in
    let whole : read_suffixes c.args.bytes.now ≡ read_text c.in-Ok.text.now = of_text c.args.bytes.now c.in-Ok.ensures.cases.1 ∙ ap read_text (sym c.in-Ok.ensures.cases.0) in
    rw (p.1, p.2) (refused_as (read_text c.in-Ok.text.now) (read_suffixes c.args.bytes.now) c.in_err-rules.field-0.0 (λ h. whole ∙ h) c.in_err-rules.ensures)

pub returns-in-Ok-build-clause-read : goal.returns-in-Ok-build-clause-read
returns-in-Ok-build-clause-read c =
    of_text c.args.bytes.now c.in-Ok.ensures.cases.1 ∙ ap read_text (sym c.in-Ok.ensures.cases.0)
    ∙ c.in_ok-rules.ensures ∙ ap (λ (rs : List SuffixRule). Ok rs) (sym c.in-Ok-build.ensures)
