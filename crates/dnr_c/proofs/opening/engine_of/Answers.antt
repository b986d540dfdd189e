use Rattle.std.proofs.Common.{◌≡◌, ◌∙◌, ap, map, string_bytes}
use Rattle.dnr_c.specs.Given as from_c
use Rattle.dnr_c.proofs.Opens.{refused_same}
use Rattle.dnr_c.proofs.opening.engine_of.Goals as goal

pub returns-clause-refused : goal.returns-clause-refused
returns-clause-refused c =
    refused_same c.open.result (map string_bytes c.deref.result.now) (from_c.words_of c.args.words.now) c.in-Ok-files_of.held.items (from_c.files_of c.args.files.now)
    (ap (map string_bytes) c.deref.ensures.value ∙ c.in-Ok.ensures) c.in-Ok-files_of.ensures c.open.ensures.refused
