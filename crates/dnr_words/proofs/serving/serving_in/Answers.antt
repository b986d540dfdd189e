use Rattle.std.proofs.Common.{map, string_bytes, option_map, ap, ◌∙◌}
use Rattle.dnr_words.specs.Reading.{installed_in}
use Rattle.dnr_words.proofs.ServeOptions.{session, served}
use Rattle.dnr_words.proofs.serving.serving_in.Goals as goal

pub returns-in_err-once : goal.returns-in_err-once
returns-in_err-once c =
    let words = map string_bytes c.args.words.now in
    rw c.from_residual.ensures (ap (option_map (session (installed_in words))) c.in_err-once.ensures ∙ served words)

pub returns : goal.returns
returns c =
    let words = map string_bytes c.args.words.now in
    rw c.unwrap_or.ensures (ap (option_map (session (installed_in words))) c.in_ok-once.ensures ∙ served words)
