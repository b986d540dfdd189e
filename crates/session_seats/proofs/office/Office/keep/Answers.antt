use Rattle.std.proofs.Common.{string_bytes}
use Rattle.std.proofs.lemmas.List.{map_push}
use Rattle.session_seats.proofs.office.Office.keep.Goals as goal

pub returns-clause-texts : goal.returns-clause-texts
returns-clause-texts g c = rw (c.in_ok-push.ensures.items, ← c.self.view_is) (map_push string_bytes c.self.inside.texts.items c.args.text)
