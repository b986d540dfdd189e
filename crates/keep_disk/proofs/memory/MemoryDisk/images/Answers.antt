use Rattle.keep_disk.specs.Laws.{three_of}
use Rattle.keep_disk.proofs.memory.MemoryDisk.images.Goals as goal

pub returns-clause-images : goal.returns-clause-images
returns-clause-images c = three_of c.args.self.now.first c.args.self.now.calls
