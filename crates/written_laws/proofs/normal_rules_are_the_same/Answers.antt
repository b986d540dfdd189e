use Rattle.written_laws.proofs.normal_rules_are_the_same.Goals as goal
use Rattle.written_laws.proofs.Alike as proof
use Rattle.written_laws.proofs.Scans.{normal_states_decide_alike}

-- src/lib.rt

pub returns : goal.returns
returns c = record {
  holds = proof.normal_rules_hold_alike;
  rules = proof.normal_rules_are_rules c.changes_read_again.ensures c.rules_keep_their_form.ensures;
  text = proof.normal_rules_are_written_alike;
  stays = proof.normal_rules_stay;
  decides = normal_states_decide_alike;
}
