-- A filter list that was compiled.
use Rattle.std.specs.Prelude.{ℕ, List}
use Rattle.session_load.specs.Loads.{IsCompiledFrom}
use Rattle.session_load.specs.declared.lists.CompiledList.{CompiledList}
use Rattle.load_spec.specs.Files.{Files, HoldsFile}

abbrev pub IsCompiledList : List ℕ → CompiledList → Type 0
IsCompiledList bytes list = IsCompiledFrom bytes list.rules.items list.report.origins.items list.report.lines

-- the file is such a list
pub record HoldsCompiled (files : Files) (name : List ℕ) (list : CompiledList) : Type 0 where
  pub bytes : List ℕ
  pub file : HoldsFile files name bytes
  pub compiled : IsCompiledList bytes list
