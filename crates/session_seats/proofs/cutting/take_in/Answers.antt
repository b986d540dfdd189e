use Rattle.session_seats.proofs.Syncs.{ends_at_sync, no_sync_more}
use Rattle.session_seats.proofs.cutting.take_in.Goals as goal

pub returns-clause-syncs : goal.returns-clause-syncs
returns-clause-syncs c = ends_at_sync c.args.cut.now.items c.push_reserved.new.self.items c.new-line.result c.push_reserved.ensures.items c.requires.none

pub returns-clause-none : goal.returns-clause-none
returns-clause-none c = λ is. no_sync_more c.args.cut.now.items c.push_reserved.new.self.items c.new-line.result c.push_reserved.ensures.items c.requires.none (c.goes_on-going.ensures is)
