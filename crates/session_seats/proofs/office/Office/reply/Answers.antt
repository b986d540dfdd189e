use Rattle.std.proofs.Common.{string_bytes}
use Rattle.session_seats.proofs.Offices.{blank_line_said}
use Rattle.session_seats.proofs.Replies.{bad_said}
use Rattle.session_seats.proofs.office.Office.reply.Goals as goal

pub returns-in-Ok-Blank-clause-said : goal.returns-in-Ok-Blank-clause-said
returns-in-Ok-Blank-clause-said g c =
    blank_line_said g.P.Pair.opening c.args.line.now.number c.args.line.now.read c.in-Ok-Blank.field-0 c.args.self.now.list (string_bytes c.args.into.now) c.in-Ok-Blank.is (rw c.in-Ok-Blank.is at c.in-Ok-Blank.field-0-is)

pub returns-in-Err-clause-said : goal.returns-in-Err-clause-said
returns-in-Err-clause-said g c =
    rw c.in-Err.is (bad_said c.write_bad.result g.P.Pair.opening c.args.line.now.number c.in-Err.fault c.args.self.now.list (string_bytes c.args.into.now) (string_bytes c.write_bad.new.into) c.write_bad.ensures.appended)
