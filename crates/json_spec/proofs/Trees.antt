-- The tree of bytes, from what the reader tells.
use Rattle.std.proofs.Common.{◌≡◌, ℕ, List, sym, ◌∙◌, Some, None, ⊎_elim}
use Rattle.std.specs.Str.{IsUtf8, is_utf8}
use Rattle.std.proofs.lemmas.Str.{IsUtf8-from_is_utf8, is_utf8-from_IsUtf8}
use Rattle.std.proofs.lemmas.Bool.{cases_Bool, cond-true, cond-false}
use Rattle.serde_json.specs.Data.{Data}
use Rattle.serde_json.specs.Read.{read}
use Rattle.json_spec.specs.Json.{tree_of}

-- text that is read is the tree of its bytes
pub tree_of_read : (bytes : List ℕ) (d : Data) → IsUtf8 bytes → read bytes ≡ Some d → Some d ≡ tree_of bytes
tree_of_read bytes d utf8 reads = sym (cond-true (is_utf8 bytes) (read bytes) None (is_utf8-from_IsUtf8 bytes utf8) ∙ reads)

-- bytes that are no text, or text that is not read, have no tree
pub tree_of_none : (bytes : List ℕ) → (IsUtf8 bytes → read bytes ≡ None) → None ≡ tree_of bytes
tree_of_none bytes fails =
    ⊎_elim
    (λ utf8. sym (cond-true (is_utf8 bytes) (read bytes) None utf8 ∙ fails (IsUtf8-from_is_utf8 bytes utf8)))
    (λ other. sym (cond-false (is_utf8 bytes) (read bytes) None other))
    (cases_Bool (is_utf8 bytes))
