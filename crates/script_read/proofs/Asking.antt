-- What the fields of a request say of a line is what its tree says.
use Rattle.std.proofs.Common.{◌≡◌, ℕ, List, Option, Some, Result, Ok, Err, sym, ap, ◌∙◌}
use Rattle.std.specs.Prelude.{is_some, map}
use Rattle.std.specs.Result.{IfOk, IfErr}
use Rattle.serde_json.specs.Data.{Data}
use Rattle.serde_json.specs.Find.{as_object}
use Rattle.line_spec.specs.declared.command_name.CommandName.{CommandName}
use Rattle.line_spec.specs.declared.command_name.CommandName.TheVariants as name
use Rattle.line_spec.specs.declared.line_fault.LineFault.{LineFault}
use Rattle.line_spec.specs.declared.line_fault.LineFault.TheVariants.{RuleRefused, InBatch, NoMemory}
use Rattle.line_spec.specs.IsFault.{IsFaultOf}
use Rattle.line_spec.specs.Line.{Command, command_of_tree}
use Rattle.json_fields.specs.declared.field.Field.{Field}
use Rattle.json_fields.specs.declared.fields.Form.TheVariants.{Object}
use Rattle.json_fields.specs.Fields.{key_of, Gives}
use Rattle.script_read.specs.declared.asked.Asked.{Asked}
use Rattle.script_read.specs.declared.asked.Asked.TheVariants as asked
use Rattle.script_read.specs.Asked.{Asks, IsAsked, Reads}
use Rattle.script_read.specs.Fields.{line_keys, name_at, command_from, IsFaultFrom}
use Rattle.script_read.specs.Seen.{command_seen}
use Rattle.script_read.proofs.Same.{command_is, name_is}

pub if_ok : {X E : Type 0} (result : Result X E) (P Q : X → Type 0) → ((x : X) → P x → Q x) → IfOk result P → IfOk result Q
if_ok (Ok x) P Q f h = f x h
if_ok (Err e) P Q f h = tt

pub if_err : {X E : Type 0} (result : Result X E) (P Q : E → Type 0) → ((e : E) → P e → Q e) → IfErr result P → IfErr result Q
if_err (Ok x) P Q f h = tt
if_err (Err e) P Q f h = f e h

module _ (n : ℕ) (tree : Option Data) (fields : List Field) (d : Data) (is : tree ≡ Some d) (gives : Gives Object fields d) (keys : map key_of fields ≡ line_keys) where
  asks : (name : CommandName) → name_at fields ≡ Some name → Asks tree name
  asks name h = record { d = d; is = is; object = ap (λ t. is_some (as_object t)) gives.1; named = sym (name_is fields d gives keys) ∙ h }

  of_tree : (c : Result Command LineFault) → command_from n fields tree ≡ Some c → command_of_tree n tree ≡ c
  of_tree c h = ap (command_of_tree n) is ∙ command_is n fields d c gives keys (ap (command_from n fields) (sym is) ∙ h)

  pub asked_is : (answer : Asked) → Reads n fields tree answer → IsAsked n tree answer
  asked_is (asked.Command command) h = (of_tree (Ok (command_seen command)) h.0, h.1)
  asked_is (asked.Update which) h = asks (name.Update which) h
  asked_is asked.Batch h = asks name.Batch h

  pub fault_is : (fault : LineFault) → IsFaultFrom n fields tree fault → IsFaultOf (command_of_tree n tree) fault
  fault_is (RuleRefused refusal) h = absurd h
  fault_is (InBatch place refusal) h = absurd h
  fault_is NoMemory h = tt
  fault_is fault h = of_tree (Err fault) h
