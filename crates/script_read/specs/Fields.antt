-- The command of a line, by the values at its keys.
use Rattle.std.specs.Prelude.{◌≡◌, ℕ, ℤ, negsuc, List, [], ◌∷◌, map, get_or, codes, Bool, false, ◌||◌, Option, Some, None, is_some, option_and_then, Result, Ok, Err}
use Rattle.serde_json.specs.Data.{Data}
use Rattle.serde_json.specs.Find.{as_str}
use Rattle.dnr_base.specs.declared.kind.Kind.{Kind}
use Rattle.dnr_base.specs.declared.method.Method.{Method}
use Rattle.dnr_base.specs.declared.method.Method.TheVariants.{Get}
use Rattle.dnr_base.specs.declared.request.Request.{Request}
use Rattle.dnr_base.specs.View.{View}
use Rattle.line_spec.specs.declared.command_path.CommandPath.{CommandPath}
use Rattle.line_spec.specs.declared.command_path.CommandPath.TheVariants as path
use Rattle.line_spec.specs.declared.line_fault.LineFault.{LineFault}
use Rattle.line_spec.specs.declared.line_fault.LineFault.TheVariants.{BadCommand, RuleRefused, InBatch, NoMemory}
use Rattle.json_spec.specs.Json.{tree_of}
use Rattle.json_spec.specs.RuleFields.{as_kind, as_method, as_tab}
use Rattle.line_spec.specs.Reading.{and_then}
use Rattle.line_spec.specs.RequestLine.{given, given_or, field_at, view_at, initiator_from, frames_given, headers_given}
use Rattle.line_spec.specs.declared.command_name.CommandName.{CommandName}
use Rattle.line_spec.specs.declared.command_name.CommandName.TheVariants as name
use Rattle.line_spec.specs.CommandName.{name_from}
use Rattle.line_spec.specs.Line.{Command, sync, request, explain}
use Rattle.json_fields.specs.declared.field.Field.{Field}
use Rattle.json_fields.specs.declared.fields.Form.TheVariants.{Object}
use Rattle.json_fields.specs.Fields.{key_of, value_in, Gives}

-- the keys of a line, in this order; nothing in brackets is kept
abbrev pub line_keys : List (List ℕ × Bool)
line_keys =
    (codes "cmd", false) ∷ (codes "url", false) ∷ (codes "type", false)
    ∷ (codes "initiator", false) ∷ (codes "method", false) ∷ (codes "tab", false)
    ∷ (codes "frames", false) ∷ (codes "requestHeaders", false) ∷ (codes "responseHeaders", false) ∷ []

abbrev pub place_of : CommandPath → ℕ
place_of path.Cmd = 0
place_of path.Url = 1
place_of path.Kind = 2
place_of path.Initiator = 3
place_of path.Method = 4
place_of path.Tab = 5
place_of path.Frames = 6
place_of path.RequestHeaders = 7
place_of path.ResponseHeaders = 8
place_of _ = 9

-- the value of a field
abbrev pub value_at : List Field → CommandPath → Option Data
value_at fields field = get_or (map value_in fields) (place_of field) None

-- they hold what is seen of the object that is the line
pub record AreFieldsOf (line : List ℕ) (fields : List Field) : Type 0 where
  pub d : Data
  pub is : tree_of line ≡ Some d
  pub gives : Gives Object fields d
  pub keys : map key_of fields ≡ line_keys

-- frames or headers are given
abbrev pub has_parts : List Field → Bool
has_parts fields = (is_some (value_at fields path.Frames) || is_some (value_at fields path.RequestHeaders)) || is_some (value_at fields path.ResponseHeaders)

-- the value at a key of the line
abbrev pub part_at : CommandPath → Option Data → Option Data
part_at field tree = option_and_then (field_at field) tree

unfoldable pub url_from : Option Data → Result View LineFault
url_from found = and_then (given path.Url (option_and_then as_str found)) (view_at path.Url)

unfoldable pub kind_from : Option Data → Result Kind LineFault
kind_from found = given path.Kind (option_and_then as_kind found)

unfoldable pub method_from : CommandPath → Option Data → Result Method LineFault
method_from field found = given_or Get field as_method found

unfoldable pub tab_from : Option Data → Result ℤ LineFault
tab_from found = given_or (negsuc 0) path.Tab as_tab found

-- the request of the line of this number, with the frames and the headers of this tree
unfoldable pub request_from : ℕ → List Field → Option Data → Result Request LineFault
request_from number fields tree =
    and_then (url_from (value_at fields path.Url)) (λ view.
    and_then (kind_from (value_at fields path.Kind)) (λ kind.
    and_then (initiator_from path.Initiator (value_at fields path.Initiator)) (λ initiator.
    and_then (method_from path.Method (value_at fields path.Method)) (λ method.
    and_then (tab_from (value_at fields path.Tab)) (λ tab.
    and_then (frames_given (part_at path.Frames tree)) (λ frames.
    and_then (headers_given path.RequestHeaders (part_at path.RequestHeaders tree)) (λ request_headers.
    and_then (headers_given path.ResponseHeaders (part_at path.ResponseHeaders tree)) (λ response_headers.
    Ok (record {
      line = number;
      view = view;
      initiator = initiator;
      kind = kind;
      method = method;
      tab = tab;
      frames = frames;
      request_headers = request_headers;
      response_headers = response_headers;
    })))))))))

-- ---- the command

abbrev pub name_at : List Field → Option CommandName
name_at fields = name_from (value_at fields path.Cmd)

-- the command of this name, where a request says all of it
abbrev pub command_at : ℕ → List Field → Option Data → Option CommandName → Option (Result Command LineFault)
command_at number fields tree None = Some (Err (BadCommand path.Cmd))
command_at number fields tree (Some name.Request) = Some (and_then (request_from number fields tree) (λ r. Ok (request r)))
command_at number fields tree (Some name.Explain) = Some (and_then (request_from number fields tree) (λ r. Ok (explain r)))
command_at number fields tree (Some name.Sync) = Some (Ok sync)
command_at number fields tree (Some (name.Update which)) = None
command_at number fields tree (Some name.Batch) = None

abbrev pub command_from : ℕ → List Field → Option Data → Option (Result Command LineFault)
command_from number fields tree = command_at number fields tree (name_at fields)

-- they say that it is at fault so, or memory ran out
abbrev pub IsFaultFrom : ℕ → List Field → Option Data → LineFault → Type 0
IsFaultFrom number fields tree (RuleRefused refusal) = ⊥
IsFaultFrom number fields tree (InBatch place refusal) = ⊥
IsFaultFrom number fields tree NoMemory = Unit {0}
IsFaultFrom number fields tree fault = command_from number fields tree ≡ Some (Err fault)
