-- Why a text is not read: it is no filter, or it is one and memory ran out.
use Rattle.std.specs.Prelude.{◌≡◌, ℕ, List, Ok, Err}
use Rattle.dnr_spec.specs.UrlFilter.{pattern_of}
use Rattle.dnr_spec.specs.declared.pattern_refusal.PatternRefusal.{PatternRefusal}
use Rattle.dnr_spec.specs.declared.pattern_refusal.PatternRefusal.TheVariants.{Empty, TooLong, AnchorStar, NotAscii, NoMemory}

abbrev pub IsRefused : List ℕ → PatternRefusal → Type 0
IsRefused text Empty = pattern_of text ≡ Err Empty
IsRefused text TooLong = pattern_of text ≡ Err TooLong
IsRefused text AnchorStar = pattern_of text ≡ Err AnchorStar
IsRefused text NotAscii = pattern_of text ≡ Err NotAscii
IsRefused text NoMemory = pattern_of text ≡ Ok text
