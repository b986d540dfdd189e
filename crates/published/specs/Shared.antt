-- What is published, the rule over it, and what the rule's steps tell.
use Rattle.std.specs.Prelude.{ℕ, ◌≡◌, List}
use mathlib.Core.Option.{some}
use mathlib.Core.List.{IsPrefix}
use lib.ListN.{get_elem?}
use Rattle.logbook.specs.Pages.{Book}
use Rattle.generation.specs.Basis.{Basis}
use Rattle.update_spec.specs.Entries.{Entry, replay}

-- what a pair opens with, once these entries were accepted; the suffix rules stay
abbrev pub basis_after : Basis → List Entry → Basis
basis_after opening list = record { suffixes = opening.suffixes; state = replay opening.state list }

-- the generation in force, and the accepted entries, of the history of this name
pub record Copy : Type 0 where
  pub basis : Basis
  pub book : Book
  pub list : List Entry

-- an operation is the copy that comes next
abbrev pub latest : Copy → Copy → Copy
latest before next = next

-- the copy is of this history, and its generation is what its entries make of the opening
pub record IsCopy (book : Book) (opening : Basis) (copy : Copy) : Type 0 where
  pub named : copy.book ≡ book
  pub made : copy.basis ≡ basis_after opening copy.list

-- what each reader has seen begins what is published
pub record Keeps (book : Book) (opening : Basis) (copy : Copy) (views : List (List Entry)) : Type 0 where
  pub fits : IsCopy book opening copy
  pub seen : (seat : ℕ) (view : List Entry) → get_elem? views seat ≡ some view → IsPrefix view copy.list

-- what is seen then is what is published then. It goes on from what had been seen
pub record Sees (book : Book) (opening : Basis) (before : List Entry) (was now : Copy) (seen : List Entry) : Type 0 where
  pub later : IsPrefix before now.list
  pub all : seen ≡ now.list
  pub fits : IsCopy book opening now
