-- Which files of a shelf are read before a script.
use Rattle.std.specs.Prelude.{ℕ, List, Option, IfSome, All}
use Rattle.dnr_io.specs.Shelf.{Names}
use Rattle.manifest_read.specs.Asked.{MayAskExtension}
use Rattle.session_spec.specs.Words.{Installed, folder, list, Serving}

-- the files of what is installed may be asked for
abbrev pub MayAsk : (List ℕ → Type 0) → Option Names → Installed → Type 0
MayAsk allows known (folder name) = MayAskExtension allows known name
MayAsk allows known (list name file) = allows file

abbrev pub MayAskAll : (List ℕ → Type 0) → Option Names → List Installed → Type 0
MayAskAll allows known installed = All (MayAsk allows known) installed

-- the files that are read before a script may be asked for, and no others are named
pub record MayAskServing (allows : List ℕ → Type 0) (known : Option Names) (serving : Serving) : Type 0 where
  pub suffixes : IfSome serving.suffixes allows
  pub installed : MayAskAll allows known serving.installed
