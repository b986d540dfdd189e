-- Which files of a session are there.
use Rattle.std.proofs.Common.{◌≡◌, ℕ, List, [], ◌∷◌, map, Bool, true, false, refl, sym, ap, ◌∙◌}
use Rattle.std.specs.Prelude.{◌&&◌}
use Rattle.std.specs.List.{list_all}
use Rattle.dnr_io.specs.declared.files.MemoryFile.{MemoryFile}
use Rattle.dnr_words.specs.Seen.{installed_seen}
use Rattle.dnr_words.specs.declared.options.Installed.{Installed}
use Rattle.session_spec.specs.Out.{of_words}
use Rattle.session_spec.specs.Words as spec
use Rattle.engine.specs.Opening.{are_given, is_given_at, file_of}

abbrev there : List MemoryFile → spec.Installed → Bool
there files one = is_given_at files (file_of one)

seen_there : (files : List MemoryFile) (all : List Installed) → list_all (there files) (map installed_seen all) ≡ list_all (λ one. there files (installed_seen one)) all
seen_there files [] = refl
seen_there files (one ∷ all) = ap (λ b. there files (installed_seen one) && b) (seen_there files all)

-- the suffix list is there, and all depends on the filter lists
pub all_given : (files : List MemoryFile) (serving : spec.Serving) (all : List Installed) (named lists : Bool) → named ≡ is_given_at files serving.suffixes → named ≡ true
    → lists ≡ list_all (λ one. is_given_at files (file_of (installed_seen one))) all → map installed_seen all ≡ serving.installed → are_given files (of_words serving) ≡ lists
all_given files serving all named lists is there_is given same =
    ap (λ b. b && list_all (there files) serving.installed) (sym is ∙ there_is)
    ∙ ap (list_all (there files)) (sym same) ∙ seen_there files all ∙ sym given

pub suffixes_lack : (files : List MemoryFile) (serving : spec.Serving) (named : Bool) → named ≡ is_given_at files serving.suffixes → named ≡ false → are_given files (of_words serving) ≡ false
suffixes_lack files serving named is lacks = ap (λ b. b && list_all (there files) serving.installed) (sym is ∙ lacks)
