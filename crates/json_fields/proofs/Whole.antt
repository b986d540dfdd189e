-- A whole text of bytes, as the tree that it has.
use Rattle.std.proofs.Common.{◌≡◌, List, ℕ, Some, Result, Ok, Err, sym, ap, ◌∙◌}
use Rattle.std.specs.Prelude.{IfOk}
use Rattle.std.specs.Str.{IsUtf8}
use Rattle.serde_json.specs.Data.{Data}
use Rattle.serde_json.specs.Read.{read}
use Rattle.json_spec.specs.Json.{tree_of}
use Rattle.json_spec.proofs.Trees.{tree_of_read}
use Rattle.json_fields.specs.declared.field.Field.{Field}
use Rattle.json_fields.specs.declared.fields.Form.{Form}
use Rattle.json_fields.specs.declared.tree.Fault.{Fault}
use Rattle.json_fields.specs.Fields.{Gives}

pub tree_gives : (bytes text : List ℕ) (fields : List Field) (result : Result Form Fault) → text ≡ bytes → IsUtf8 bytes
    → IfOk result (λ form. (d : Data) × (read text ≡ Some d) × Gives form fields d) → IfOk result (λ form. (d : Data) × (tree_of bytes ≡ Some d) × Gives form fields d)
tree_gives bytes text fields (Ok form) same utf8 h = (h.0, sym (tree_of_read bytes h.0 utf8 (ap read (sym same) ∙ h.1)), h.2)
tree_gives bytes text fields (Err fault) same utf8 h = tt
