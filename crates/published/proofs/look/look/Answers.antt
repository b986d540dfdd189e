use Rattle.published.proofs.Entering.{enters}
use Rattle.published.proofs.look.look.Goals as goal

pub enter_as-requires : goal.enter_as-requires
enter_as-requires g c copy = enters _ _ _ _ copy
