-- A disk that tells nothing has no law to keep.
use Rattle.std.specs.Prelude.{IsTrue, false}

pub tells_nothing : {P : Type 0} → IsTrue false → P
tells_nothing is = absurd (cc is)
