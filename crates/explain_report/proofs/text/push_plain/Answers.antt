use Rattle.std.proofs.Common.{◌++◌, ◌∷◌, [], codes, string_bytes, sym, ap, ◌∙◌}
use Rattle.explain_report.proofs.Plain.{text_plain, three_pieces}
use Rattle.explain_report.proofs.text.push_plain.Goals as goal

pub returns : goal.returns
returns c =
    three_pieces (string_bytes c.args.into.now) (string_bytes c.push_str.new.self) (string_bytes c.push_str-2.new.self) (string_bytes c.push_str-3.new.self)
    (codes "\"") c.args.text.now (codes "\"") c.in_ok-push_str.ensures.bytes c.in_ok-push_str-2.ensures.bytes c.in_ok-push_str-3.ensures.bytes
    ∙ ap (λ t. string_bytes c.args.into.now ++ 34 ∷ (t ++ 34 ∷ [])) (sym (text_plain c.args.text.now c.requires))
