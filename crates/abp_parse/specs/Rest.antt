-- What the rest of a text from a place on may be, byte for byte from the end.
use Rattle.std.specs.Prelude.{ℕ, List, [], ◌∷◌, true, false, ◌==◌, ◌&&◌, if◌then◌else◌}
use Rattle.list_spec.specs.Options.{is_name_byte}
use Rattle.abp_parse.specs.declared.place.Rest.{Rest}

abbrev pub before : ℕ → Rest → Rest
before b rest =
    if b == 44 then record { value = rest.options; name = rest.options; named = false; options = false }
    else (if b == 61 then record { value = rest.value; name = rest.value; named = false; options = false }
    else (if b == 126 then record { value = rest.value; name = false; named = false; options = rest.named }
    else let name = rest.name && is_name_byte b in record { value = rest.value; name = name; named = name; options = name }))

abbrev pub rest_of : List ℕ → Rest
rest_of [] = record { value = true; name = true; named = false; options = false }
rest_of (b ∷ text) = before b (rest_of text)
