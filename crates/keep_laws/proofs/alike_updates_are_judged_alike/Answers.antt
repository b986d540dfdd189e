use Rattle.keep_laws.proofs.Judged.{judged_alike, normal_again}
use Rattle.keep_laws.proofs.alike_updates_are_judged_alike.Goals as goal

pub returns : goal.returns
returns c = record {
  judged = judged_alike c.normal_rules_are_the_same.ensures.stays;
  stays = normal_again c.normal_rules_are_the_same.ensures.stays;
}
