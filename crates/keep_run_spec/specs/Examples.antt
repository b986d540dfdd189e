-- Examples of what is said where rules are kept, each computed from the definitions alone.
use Rattle.std.specs.Prelude.{◌≡◌, ℕ, List, [], ◌∷◌, ◌-◌, codes, true, Some, None, Ok, Err}
use Rattle.rule_spec.specs.Rule.{Rule, block}
use Rattle.rule_spec.specs.Examples.{rule_of}
use Rattle.update_spec.specs.declared.refusal.Refusal.TheVariants.{DuplicateId}
use Rattle.update_spec.specs.Update.{Update, dynamic}
use Rattle.line_spec.specs.declared.command_path.CommandPath.TheVariants.{Cmd}
use Rattle.line_spec.specs.declared.line_fault.LineFault.TheVariants.{BadCommand, BadJson}
use Rattle.line_spec.specs.Line.{blank, sync, update, batch}
use Rattle.session_spec.specs.Said.{nothing, accepted, refused, bad}
use Rattle.keep_records.specs.Ends.{max_file}
use Rattle.keep_spec.specs.Kept.{Kept}
use Rattle.keep_run_spec.specs.Words.{keeping_of}
use Rattle.keep_run_spec.specs.Output.{kept_line, full_line, too_long_line, bad_record_line, host_line}
use Rattle.keep_run_spec.specs.Answers.{Asked, nothing_more, keep_this, at_fault, asked_by, Told, says, is_full, told_to, kept_after, told_text}

-- the extension, and an update that adds a rule which blocks what `a.com` and its subdomains give
abbrev pub name : List ℕ
name = codes "a"

abbrev pub added : Update
added = dynamic name [] (rule_of 1 1 (codes "||a.com^") block ∷ [])

-- an empty file; and one that is as long as a file may be, but for so many bytes
abbrev pub nothing_kept : Kept
nothing_kept = record { name = name; list = []; place = 0; live = true }

abbrev pub with_room : ℕ → Kept
with_room bytes = record { name = name; list = []; place = max_file - bytes; live = true }

-- ---- the examples

-- Four words are needed: a file, an extension by its name, and a script.
abbrev pub KeepTakesThreeWords : Type 0
KeepTakesThreeWords =
    (keeping_of (codes "keep" ∷ codes "f" ∷ codes "a" ∷ codes "s" ∷ []) ≡ Some (record { file = codes "f"; extension = codes "a"; script = codes "s" }))
    × (keeping_of (codes "keep" ∷ codes "f" ∷ codes "A" ∷ codes "s" ∷ []) ≡ None)
    × (keeping_of (codes "keep" ∷ codes "f" ∷ codes "" ∷ codes "s" ∷ []) ≡ None)
    × (keeping_of (codes "keep" ∷ codes "-f" ∷ codes "a" ∷ codes "s" ∷ []) ≡ None)
    × (keeping_of (codes "keep" ∷ codes "f" ∷ codes "a" ∷ []) ≡ None)
    × (keeping_of (codes "kept" ∷ codes "f" ∷ codes "a" ∷ codes "s" ∷ []) ≡ None)

-- The first line counts what the file holds; a file that is refused has one line of its own.
abbrev pub KeptFilesAreTold : Type 0
KeptFilesAreTold =
    (kept_line 0 ≡ codes "{\"kept\":0}\n")
    × (kept_line 12 ≡ codes "{\"kept\":12}\n")
    × (too_long_line (codes "k") ≡ codes "{\"file\":\"k\",\"refused\":\"keep-too-long\"}\n")
    × (bad_record_line (codes "k") 0 ≡ codes "{\"file\":\"k\",\"refused\":\"bad-record\",\"offset\":0}\n")
    × (host_line (codes "k") ≡ codes "{\"file\":\"k\",\"refused\":\"pattern-host\"}\n")

-- A dynamic update of the extension is asked for, and nothing else.
abbrev pub OthersAreBadLines : Type 0
OthersAreBadLines =
    (asked_by name (Ok (update added)) ≡ keep_this added)
    × (asked_by (codes "b") (Ok (update added)) ≡ at_fault (BadCommand Cmd))
    × (asked_by name (Ok (batch (added ∷ []))) ≡ at_fault (BadCommand Cmd))
    × (asked_by name (Ok sync) ≡ at_fault (BadCommand Cmd))
    × (asked_by name (Ok blank) ≡ nothing_more)
    × (asked_by name (Err BadJson) ≡ at_fault BadJson)

-- An update is accepted once: then its rule is there.
abbrev pub KeptOnesCount : Type 0
KeptOnesCount =
    (told_to nothing_kept (keep_this added) ≡ says (accepted 1))
    × (told_to (kept_after nothing_kept (keep_this added)) (keep_this added) ≡ says (refused (DuplicateId 1)))
    × (told_text 1 (says (accepted 1) ∷ says nothing ∷ says (refused (DuplicateId 1)) ∷ [])
    ≡ codes "{\"line\":1,\"accepted\":1}\n{\"line\":3,\"refused\":\"duplicate-id\",\"id\":1}\n")

-- The record of this update has 155 bytes behind the gate byte that is there, with its own.
abbrev pub FullFilesTakeNone : Type 0
FullFilesTakeNone =
    (told_to (with_room 156) (keep_this added) ≡ says (accepted 1))
    × (told_to (with_room 155) (keep_this added) ≡ is_full)
    × (full_line 7 ≡ codes "{\"line\":7,\"refused\":\"keep-full\"}\n")
