-- What a kept list has to do with the images that a crash may leave: an image is the bytes of the file then.
use Rattle.std.specs.Prelude.{◌≡◌, ◌⊎◌, ℕ, ◌≤◌, true, false, List, [], ◌∷◌, ◌++◌, length, map, Some}
use Rattle.written_laws.specs.Normal.{normal}
use Rattle.update_spec.specs.Update.{Update, dynamic, session}
use Rattle.keep_records.specs.Records.{payloads, span}
use Rattle.keep_records.specs.Ends.{max_file, Ends}
use Rattle.keep_spec.specs.Kept.{Kept, update_at, kept, start, state_of, all_accepted, takes}

-- ---- lists of updates that are the same but for the order of what they list as sets

-- the update with its rules in their normal form
abbrev pub normal_update : Update → Update
normal_update (dynamic name remove add) = dynamic name remove (map normal add)
normal_update (session name remove add) = session name remove (map normal add)
normal_update other = other

-- domains and tabs are compared as sets
abbrev pub AreAlike : List Update → List Update → Type 0
AreAlike list other = map normal_update list ≡ map normal_update other

-- ---- what a kept list agrees with

-- an image has this list, and its records end at this place, where a closed gate byte is
pub record HasList (name : List ℕ) (list : List Update) (place : ℕ) (image : List ℕ) : Type 0 where
  pub alike : AreAlike (kept name image) list
  pub ends : Ends place image

-- each image that a crash now may leave is of this kept list
abbrev pub Agrees : (List ℕ → Type 0) → Kept → Type 0
Agrees images keep = (image : List ℕ) → images image → HasList keep.name keep.list keep.place image

-- an image has the list from before, or that list with the update at the end
pub record HasBeforeOrAfter (name : List ℕ) (list : List Update) (added : Update) (image : List ℕ) : Type 0 where
  pub either : AreAlike (kept name image) list ⊎ AreAlike (kept name image) (list ++ added ∷ [])
  pub short : length image ≤ max_file

-- an image has the list of an image that a crash before could have left
pub record HadList (name : List ℕ) (before : List ℕ → Type 0) (image : List ℕ) : Type 0 where
  pub old : List ℕ
  pub was : before old
  pub same : kept name image ≡ kept name old

-- ---- what is sound

-- these payloads read as these updates of the extension
abbrev pub AreRead : List ℕ → List (List ℕ) → List Update → Type 0
AreRead name all list = map (update_at name) all ≡ map Some list

-- an image is short enough, and its payloads are dynamic updates of the extension, each accepted after those before it
pub record IsSound (name image : List ℕ) : Type 0 where
  pub short : length image ≤ max_file
  pub list : List Update
  pub read : AreRead name (payloads image) list
  pub accepted : all_accepted (start name) list ≡ true

-- each image that a crash now may leave is sound
abbrev pub Sound : List ℕ → (List ℕ → Type 0) → Type 0
Sound name images = (image : List ℕ) → images image → IsSound name image

-- the record at this place is the first whose payload is no dynamic update of the extension, or is refused after those
-- before it
pub record IsFirstRefused (name : List ℕ) (all : List (List ℕ)) (place : ℕ) : Type 0 where
  pub before : List (List ℕ)
  pub list : List Update
  pub refused : List ℕ
  pub later : List (List ℕ)
  pub split : all ≡ before ++ refused ∷ later
  pub read : AreRead name before list
  pub accepted : all_accepted (start name) list ≡ true
  pub not_taken : takes name (state_of name list) refused ≡ false
  pub place_is : place ≡ span before
