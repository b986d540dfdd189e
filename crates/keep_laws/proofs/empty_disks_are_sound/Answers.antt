use Rattle.keep_laws.proofs.Accepted.{empty_is_sound}
use Rattle.keep_laws.proofs.empty_disks_are_sound.Goals as goal

pub returns : goal.returns
returns g c = λ name only image left. empty_is_sound name image (only image left)
