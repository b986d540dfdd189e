use Rattle.std.proofs.Common.{◌≡◌, ℕ, List, Some, Result, Ok, Err, ap}
use Rattle.std.specs.Prelude.{IfOk}
use Rattle.serde_json.specs.Data.{Data}
use Rattle.serde_json.specs.Find.{as_array}
use Rattle.serde_json.specs.Read.{read}
use Rattle.json_fields.specs.declared.field.Field.{Field}
use Rattle.json_fields.specs.declared.fields.Form.{Form}
use Rattle.json_fields.specs.declared.fields.Form.TheVariants.{Object, Other}
use Rattle.json_fields.specs.declared.tree.Fault.{Fault}
use Rattle.json_fields.specs.Fields.{Gives}
use Rattle.rules_file.specs.Reading.{IsForm}
use Rattle.rules_file.proofs.text.form_of.Goals as goal

form_is : (text : List ℕ) (fields : List Field) (result : Result Form Fault) → IfOk result (λ form. (d : Data) × (read text ≡ Some d) × Gives form fields d) → IfOk result (λ form. (d : Data) × (read text ≡ Some d) × IsForm form d)
form_is text fields (Ok Object) h = (h.0, h.1, ap as_array h.2.1)
form_is text fields (Ok Other) h = (h.0, h.1, tt)
form_is text fields (Err fault) h = tt

pub returns-clause-read : goal.returns-clause-read
returns-clause-read c = form_is c.args.text.now c.text_fields.new.fields c.text_fields.result c.text_fields.ensures.ok
