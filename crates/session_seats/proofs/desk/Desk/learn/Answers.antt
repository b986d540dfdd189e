use Rattle.std.proofs.Common.{Option, refl, sym, ap, subst}
use Rattle.std.proofs.lemmas.Bool.{false≢true}
use mathlib.Core.List.{IsPrefix}
use Rattle.published.proofs.Beginnings.{begins_itself}
use Rattle.published.specs.Pass.{PassSeen}
use Rattle.session_seats.specs.Seats.{DeskSeen, seen_of}
use Rattle.session_seats.proofs.Desks.{learns_on, untold_of}
use Rattle.session_seats.proofs.Served.{later_as, later_of}
use Rattle.session_seats.proofs.desk.Desk.learn.Goals as goal

pub returns-in_default-clause-seen : goal.returns-in_default-clause-seen
returns-in_default-clause-seen g c =
    subst (λ (pass : Option PassSeen). IsPrefix (seen_of c.args.self.now.pass) (seen_of pass)) (sym (ap (λ (desk : DeskSeen). desk.pass) c.self.view_is)) (begins_itself (seen_of c.args.self.now.pass))

pub returns-in_default-clause-told : goal.returns-in_default-clause-told
returns-in_default-clause-told g c = λ is. absurd (false≢true is)

pub returns-in_default-clause-later : goal.returns-in_default-clause-later
returns-in_default-clause-later g c = later_as c.args.self.now.pass c.self.inside.pass (ap (λ (desk : DeskSeen). desk.pass) c.self.view_is)

pub returns-clause-seen : goal.returns-clause-seen
returns-clause-seen g c =
    learns_on c.args.self.now.pass c.self.inside.pass _ c.learn.new.self c.learn.result (ap (λ (desk : DeskSeen). desk.pass) c.self.view_is) c.in-Some.is c.learn.ensures.seen c.learn.ensures.none

pub returns-clause-told : goal.returns-clause-told
returns-clause-told g c = c.learn.ensures.told

pub returns-clause-untold : goal.returns-clause-untold
returns-clause-untold g c = λ not.
    untold_of c.args.self.now.pass c.self.inside.pass _ c.learn.new.self c.args.note (ap (λ (desk : DeskSeen). desk.pass) c.self.view_is) c.in-Some.is (c.learn.ensures.cause not)

pub returns-clause-later : goal.returns-clause-later
returns-clause-later g c =
    later_of c.args.self.now.pass c.self.inside.pass _ _ c.learn.new.self (ap (λ (desk : DeskSeen). desk.pass) c.self.view_is) c.in-Some.is refl c.learn.ensures.later
