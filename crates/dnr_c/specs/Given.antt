-- What C hands over: words, and files with their names.
use Rattle.std.specs.Prelude.{ℕ, List, map, Bool, ◌&&◌}
use Rattle.std.specs.List.{list_all}
use Rattle.std.specs.Str.{is_utf8}
use Rattle.dnr_io.specs.declared.files.MemoryFile.{MemoryFile}
use Rattle.dnr_c.specs.declared.given.GivenText.{GivenText}
use Rattle.dnr_c.specs.declared.given.GivenFile.{GivenFile}

abbrev pub word_of : GivenText → List ℕ
word_of text = text.bytes.now

abbrev pub words_of : List GivenText → List (List ℕ)
words_of texts = map word_of texts

abbrev pub file_of : GivenFile → MemoryFile
file_of file = record { name = file.name.now; bytes = file.bytes.now }

abbrev pub files_of : List GivenFile → List MemoryFile
files_of files = map file_of files

-- each word is a text
abbrev pub are_words : List GivenText → Bool
are_words words = list_all (λ word. is_utf8 word.bytes.now) words

-- so is the name of each file
abbrev pub are_names : List GivenFile → Bool
are_names files = list_all (λ file. is_utf8 file.name.now) files

abbrev pub are_texts : List GivenText → List GivenFile → Bool
are_texts words files = are_words words && are_names files
