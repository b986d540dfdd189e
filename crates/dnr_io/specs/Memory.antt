-- What sources, shelves and sinks in memory hold.
use Rattle.std.specs.Prelude.{ℕ, List}
use Rattle.dnr_base.specs.Plan.{Plan}
use Rattle.dnr_io.specs.declared.files.MemoryFile.{MemoryFile}

-- the bytes that a source has left, and which of its reads fail
pub record SourceInMemory : Type 0 where
  pub left : List ℕ
  pub plan : Plan

-- the bytes that a sink has taken, and which of its writes fail
pub record SinkInMemory : Type 0 where
  pub taken : List ℕ
  pub plan : Plan

-- the files of a shelf, what is left of the one that is read, how often one was started, and which of its calls fail
pub record ShelfInMemory : Type 0 where
  pub files : List MemoryFile
  pub left : List ℕ
  pub starts : ℕ
  pub plan : Plan
