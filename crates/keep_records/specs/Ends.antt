-- Where the records of an image end, and what is added to them. An image is the bytes that a crash leaves.
use Rattle.std.specs.Prelude.{◌≡◌, ◌⊎◌, ℕ, ◌<◌, ◌≤◌, List, [], ◌∷◌, ◌++◌, length, get_or}
use Rattle.keep_records.specs.Records.{payloads, end_of}

-- the bytes that a file may have at most
abbrev pub max_file : ℕ
max_file = 67108864

-- an image is short enough, and its records end at this place, where a closed gate byte is
pub record Ends (place : ℕ) (image : List ℕ) : Type 0 where
  pub short : length image ≤ max_file
  pub place_is : end_of image ≡ place
  pub there : place < length image
  pub closed : get_or image place 0 ≡ 0

-- the same of each image that a crash now may leave
abbrev pub AllEnd : (List ℕ → Type 0) → ℕ → Type 0
AllEnd images place = (image : List ℕ) → images image → Ends place image

-- and it has these payloads
pub record Has (list : List (List ℕ)) (place : ℕ) (image : List ℕ) : Type 0 where
  pub list_is : payloads image ≡ list
  pub short : length image ≤ max_file
  pub place_is : end_of image ≡ place
  pub there : place < length image
  pub closed : get_or image place 0 ≡ 0

abbrev pub AllHave : (List ℕ → Type 0) → List (List ℕ) → ℕ → Type 0
AllHave images list place = (image : List ℕ) → images image → Has list place image

-- an image has these payloads, and is short enough
pub record Keeps (list : List (List ℕ)) (image : List ℕ) : Type 0 where
  pub list_is : payloads image ≡ list
  pub short : length image ≤ max_file

-- an image has these payloads, or these and one more, and is short enough
pub record IsBeforeOrAfter (list : List (List ℕ)) (payload image : List ℕ) : Type 0 where
  pub either : (payloads image ≡ list) ⊎ (payloads image ≡ list ++ payload ∷ [])
  pub short : length image ≤ max_file

-- an image has the payloads of an image that a crash before could have left, or those and one more
pub record MayAdd (before : List ℕ → Type 0) (payload image : List ℕ) : Type 0 where
  pub old : List ℕ
  pub was : before old
  pub is : IsBeforeOrAfter (payloads old) payload image

-- an image has the payloads of an image that a crash before could have left, and one more
pub record Adds (before : List ℕ → Type 0) (place : ℕ) (payload image : List ℕ) : Type 0 where
  pub old : List ℕ
  pub was : before old
  pub has : Has (payloads old ++ payload ∷ []) place image

-- an image has the payloads of an image that a crash before could have left, and is short enough where that one is
pub record HadPayloads (before : List ℕ → Type 0) (image : List ℕ) : Type 0 where
  pub old : List ℕ
  pub was : before old
  pub same : payloads image ≡ payloads old
  pub short : length old ≤ max_file → length image ≤ max_file
