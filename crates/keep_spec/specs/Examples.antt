-- Examples of files, each computed from the definitions alone.
use Rattle.std.specs.Prelude.{◌≡◌, ℕ, List, [], ◌∷◌, ◌++◌, ◌+◌, codes, length, Some, None}
use Rattle.rule_spec.specs.Rule.{Rule, block}
use Rattle.rule_spec.specs.Examples.{rule_of}
use Rattle.update_spec.specs.declared.refusal.Refusal.TheVariants.{DuplicateId}
use Rattle.update_spec.specs.Update.{Update, dynamic}
use Rattle.update_spec.specs.Judge.{judge_update}
use Rattle.keep_records.specs.Records.{payloads, end_of, behind_gate}
use Rattle.keep_spec.specs.Kept.{update_at, kept, start, state_of}

-- the extension, a rule that blocks what `a.com` and its subdomains give, and the update that adds it
abbrev pub name : List ℕ
name = codes "a"

abbrev pub rule : Rule
rule = rule_of 1 1 (codes "||a.com^") block

abbrev pub added : Update
added = dynamic name [] (rule ∷ [])

abbrev pub text : List ℕ
text =
    codes "{\"addRules\":[{\"action\":{\"type\":\"block\"},\"condition\":{\"urlFilter\":\"||a.com^\"},\"id\":1,\"priority\":1}],"
    ++ codes "\"cmd\":\"dynamic\",\"extension\":\"a\",\"removeRuleIds\":[]}"

-- a file of one record, with a closed gate byte behind it
abbrev pub file : List ℕ
file = 1 ∷ behind_gate text

abbrev pub other_file : List ℕ
other_file = 1 ∷ 0 ∷ 0 ∷ 0 ∷ 2 ∷ codes "{}" ++ 0 ∷ []

-- ---- the examples

-- An empty file keeps nothing, and neither does one byte, whatever it is.
abbrev pub ShortFilesKeepNothing : Type 0
ShortFilesKeepNothing = (kept name [] ≡ []) × (kept name (1 ∷ []) ≡ []) × (kept name (0 ∷ []) ≡ [])

-- A file keeps the update of its record, and ends at the next gate byte; of another extension it keeps nothing.
abbrev pub RecordsKeepUpdates : Type 0
RecordsKeepUpdates = (kept name file ≡ added ∷ []) × (end_of file ≡ 5 + length text) × (kept (codes "b") file ≡ [])

-- A record may hold any bytes; those that are no update are kept as none.
abbrev pub OtherPayloadsAreNone : Type 0
OtherPayloadsAreNone = (payloads other_file ≡ codes "{}" ∷ []) × (update_at name (codes "{}") ≡ None)

-- An update is accepted once: then its rule is there.
abbrev pub UpdatesAreAcceptedOnce : Type 0
UpdatesAreAcceptedOnce =
    (judge_update (start name) added ≡ None) × (judge_update (state_of name (added ∷ [])) added ≡ Some (DuplicateId 1))
