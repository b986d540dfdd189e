-- The file at the place of a name is the file that is found by it.
use Rattle.std.proofs.Common.{◌≡◌, ℕ, List, [], length, Bool, true, cond, Option, Some, None, is_some, option_map, refl, sym, ap, ◌∙◌, arith}
use Rattle.std.proofs.lemmas.Bool.Decides.{nat_tests}
use Rattle.std.proofs.lemmas.List.Folds.{find_at}
use Rattle.std.proofs.lemmas.Option.{slice_get_past, slice_get_cases}
use Rattle.std.specs.Prelude.{option_and_then, unwrap_or, slice_get, nat_lt}
use Rattle.std.specs.List.{find, position, position_or_len}
use Rattle.dnr_io.specs.Files.{is_named, bytes_of, bytes_at, held_in}
use Rattle.dnr_io.specs.declared.files.MemoryFile.{MemoryFile}

at_place : {X : Type 0} (xs : List X) (n : ℕ) → option_and_then (slice_get xs) (cond (nat_lt n (length xs)) (Some n) None) ≡ slice_get xs n
at_place xs n = grind (arith, nat_tests, slice_get_past)

found_at : {X : Type 0} (p : X → Bool) (xs : List X) → option_and_then (slice_get xs) (position p xs) ≡ find p xs
found_at p xs = at_place xs (position_or_len p xs) ∙ sym (find_at p xs)

pub place_held : (files : List MemoryFile) (name : List ℕ) (place : Option ℕ) → place ≡ position (is_named name) files → option_map bytes_of (option_and_then (slice_get files) place) ≡ held_in files name
place_held files name place e = rw e (ap (λ found. option_map bytes_of found) (found_at (is_named name) files))

found_some : {X : Type 0} (xs : List X) (n : ℕ) → is_some (cond (nat_lt n (length xs)) (Some n) None) ≡ is_some (slice_get xs n)
found_some xs n = grind (arith, nat_tests, slice_get_past, slice_get_cases)

map_some : {X Y : Type 0} (f : X → Y) (found : Option X) → is_some (option_map f found) ≡ is_some found
map_some f None = refl
map_some f (Some x) = refl

pub place_found : (files : List MemoryFile) (name : List ℕ) (place : Option ℕ) → place ≡ position (is_named name) files → is_some place ≡ is_some (held_in files name)
place_found files name place e =
    rw (e, map_some bytes_of (find (is_named name) files), find_at (is_named name) files) (found_some files (position_or_len (is_named name) files))

known : (held : Option (List ℕ)) → is_some held ≡ true → Some (unwrap_or held []) ≡ held
known None e = cc
known (Some bytes) e = refl

-- where a place was found, what stands there is what is held
pub place_known : (files : List MemoryFile) (name : List ℕ) (place : Option ℕ) → place ≡ position (is_named name) files → is_some place ≡ true → Some (bytes_at files place) ≡ held_in files name
place_known files name place e some =
    ap (λ held. Some (unwrap_or held [])) (place_held files name place e) ∙ known (held_in files name) (sym (place_found files name place e) ∙ some)
