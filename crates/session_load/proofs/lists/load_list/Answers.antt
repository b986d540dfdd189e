use Rattle.dnr_base.specs.Faults.{Rose}
use Rattle.session_load.proofs.Read.{if_bad_list}
use Rattle.session_load.proofs.lists.load_list.Goals as goal

pub returns-in-Ok-clause-stops : goal.returns-in-Ok-clause-stops
returns-in-Ok-clause-stops g c =
    if_bad_list c.list_in.result (g.F.Source.files c.args.shelf.now) (Rose (g.H.RegexHost.faults c.args.host.now) (g.H.RegexHost.faults c.list_in.new.host))
    c.args.name.now c.in-Ok.bytes.items c.in-Ok.ensures.held (rw c.deref.ensures.value at c.list_in.ensures.stops)
