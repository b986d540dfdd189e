use Rattle.std.proofs.Common.{sym, ◌∙◌, subst}
use Rattle.ruleset_store.specs.Seen.{updates_seen}
use Rattle.keep_laws.proofs.Accepted.{kept_is}
use Rattle.rule_keep.proofs.Replays.{found_listed}
use Rattle.rule_keep.proofs.listed.read_updates.Goals as goal

pub returns-in_ok-found_of-in-None-clause-found : goal.returns-in_ok-found_of-in-None-clause-found
returns-in_ok-found_of-in-None-clause-found g c =
    let listed = c.in_ok-read_list-in-None in
    let handed = c.in_ok-found_of-in-None in
    found_listed c.args.name.now c.args.bytes.now (updates_seen listed.field-0.list.items) handed.field-0.place handed.field-0.store listed.ensures.read
    (handed.ensures.place ∙ listed.ensures.place) (handed.ensures.store ∙ listed.ensures.store) listed.ensures.accepted

pub returns-in_ok-found_of-in-None-clause-updates : goal.returns-in_ok-found_of-in-None-clause-updates
returns-in_ok-found_of-in-None-clause-updates g c =
    let listed = c.in_ok-read_list-in-None in
    let handed = c.in_ok-found_of-in-None in
    subst (g.U.Updates.stands handed.field-0.updates)
    (sym (kept_is c.args.name.now c.args.bytes.now (updates_seen listed.field-0.list.items) listed.ensures.read)) handed.ensures.updates
