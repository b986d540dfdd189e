use Rattle.std.proofs.Common.{map, string_bytes, sym}
use Rattle.session_seats.proofs.Offices.{all_answered}
use Rattle.session_seats.proofs.office.OfficeSharedWriterDeal.write.Goals as goal

pub returns : goal.returns
returns g c =
    all_answered c.write_all.result g.P.Pair.opening c.args.self.now.list c.lines.result.now c.args.round.now.lines c.self.inside.writer.list c.self.inside.writer.staged (map string_bytes c.self.inside.texts.items) c.self.inside.stopped
    c.is_err-self-inside.result c.write_all.new.self c.lines.ensures.value (sym c.self.view_is) c.is_err-self-inside.ensures.value c.write_all.ensures
