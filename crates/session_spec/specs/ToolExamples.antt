-- Examples of what `hide` and `prune` print, computed from the definitions alone.
use Rattle.std.specs.Prelude.{◌≡◌, ◌∷◌, [], ◌++◌, codes, Some, None}
use Rattle.list_spec.specs.LineKind.{lines_of}
use Rattle.hide_spec.specs.Examples.{small_list, mixed_list}
use Rattle.prune_spec.specs.Examples.{three_blocks}
use Rattle.session_spec.specs.Hiding.{hidden_text}
use Rattle.session_spec.specs.Pruning.{pruned_text}
use Rattle.session_spec.specs.Words.{hide_page, prune_file, task_of}

-- `hide` takes the name of a file and a host in lower case; `prune` takes the name of a file.
abbrev pub ToolsTakeTheirWords : Type 0
ToolsTakeTheirWords =
    (task_of (codes "hide" ∷ codes "a" ∷ codes "www.a.com" ∷ []) ≡ Some (hide_page (codes "a") (codes "www.a.com")))
    × (task_of (codes "hide" ∷ codes "a" ∷ codes "A.com" ∷ []) ≡ None)
    × (task_of (codes "hide" ∷ codes "a" ∷ codes "" ∷ []) ≡ None)
    × (task_of (codes "hide" ∷ codes "a" ∷ []) ≡ None)
    × (task_of (codes "prune" ∷ codes "a" ∷ []) ≡ Some (prune_file (codes "a")))
    × (task_of (codes "prune" ∷ codes "static" ∷ codes "a" ∷ []) ≡ None)

-- Lines that are not used are told first, and then what the page hides.
abbrev pub HiddenSelectorsAreListed : Type 0
HiddenSelectorsAreListed =
    (hidden_text (lines_of small_list) (codes "a.com")
    ≡ codes "{\"line\":4,\"unsupported\":\"hide-syntax\"}\n{\"host\":\"a.com\",\"selectors\":[\".ad\",\".banner\"]}\n")
    × (hidden_text (lines_of small_list) (codes "b.a.com")
    ≡ codes "{\"line\":4,\"unsupported\":\"hide-syntax\"}\n{\"host\":\"b.a.com\",\"selectors\":[]}\n")
    × (hidden_text (lines_of mixed_list) (codes "www.a.com") ≡ codes "{\"host\":\"www.a.com\",\"selectors\":[\".ad\"]}\n")

-- Each rule that is left out names the one that is kept for it; what is left stands behind its count.
abbrev pub PrunedRulesAreListed : Type 0
PrunedRulesAreListed =
    pruned_text three_blocks
    ≡ codes "{\"removed\":1,\"by\":3}\n{\"removed\":2,\"by\":3}\n{\"rules\":1}\n"
    ++ codes "[{\"action\":{\"type\":\"block\"},\"condition\":{\"urlFilter\":\"||a.com^\"},\"id\":3,\"priority\":2}]\n"
