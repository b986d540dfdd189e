use Rattle.published.proofs.Entering.{admits}
use Rattle.published.proofs.writer.Writer.pass.Goals as goal

pub reader-requires : goal.reader-requires
reader-requires g c = admits _ _
