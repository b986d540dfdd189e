-- The frames and the headers that were kept of a line are those of the whole.
use Rattle.std.proofs.Common.{◌≡◌, ℕ, ◌<◌, List, [], ◌∷◌, length, map, get_or, Bool, true, false, ◌||◌, Option, Some, None, is_some, option_map, Result, Ok, Err, refl, sym, ap, ◌∙◌, arith}
use Rattle.std.specs.Result.{IfOk}
use Rattle.std.specs.Str.{IsUtf8}
use Rattle.std.proofs.lemmas.List.{length-map}
use Rattle.serde_json.specs.Data.{Data, null}
use Rattle.serde_json.specs.Read.{read}
use Rattle.serde_json.specs.View.{view}
use Rattle.serde_json.specs.declared.value.Value.{Value}
use Rattle.json_spec.specs.Json.{tree_of}
use Rattle.json_spec.proofs.Trees.{tree_of_read}
use Rattle.line_spec.specs.declared.command_path.CommandPath.{CommandPath}
use Rattle.line_spec.specs.declared.command_path.CommandPath.TheVariants as path
use Rattle.line_spec.specs.CommandPath.{path_name}
use Rattle.line_spec.specs.RequestLine.{field_at, frames_given, headers_given}
use Rattle.json_fields.specs.declared.fields.Form.TheVariants.{Object}
use Rattle.json_fields.specs.declared.field.Field.{Field}
use Rattle.json_fields.specs.declared.tree.Fault.{Fault}
use Rattle.json_fields.specs.Held.{seen}
use Rattle.json_fields.specs.Fields.{key_of, Gives}
use Rattle.request_parts.specs.SaysAs.{SaysAs}
use Rattle.script_read.specs.Fields.{line_keys, place_of, value_at, AreFieldsOf, has_parts, request_from}
use Rattle.script_read.proofs.Same.{plain}

-- ---- none is given

none_seen : (found : Option Data) → option_map (seen false) found ≡ None → found ≡ None
none_seen None h = refl
none_seen (Some d) h = absurd (cc)

no_value : (found : Option Data) → is_some found ≡ false → found ≡ None
no_value None h = refl
no_value (Some d) h = absurd (cc)

neither : (x y : Bool) → (x || y) ≡ false → (x ≡ false) × (y ≡ false)
neither true y h = absurd (cc)
neither false y h = (refl, h)

no_part : (n : ℕ) (fields : List Field) (d : Data) → Gives Object fields d → map key_of fields ≡ line_keys → (p : CommandPath) → place_of p < 9
    → ((e : Field) → (get_or line_keys (place_of p) (key_of e)) ≡ (path_name p, false)) → is_some (value_at fields p) ≡ false → field_at p d ≡ None
no_part n [] d gives keys p within key none = absurd (cc)
no_part n (e ∷ rest) d gives keys p within key none =
    let all : length (e ∷ rest) ≡ 9 = sym (length-map (e ∷ rest) key_of) ∙ ap (length {A = List ℕ × Bool}) keys in
    none_seen (field_at p d) (sym (plain n (e ∷ rest) e d gives keys all p within (key e)) ∙ no_value (value_at (e ∷ rest) p) none)

-- null says as much
pub none_say : (bytes : List ℕ) (fields : List Field) (of : AreFieldsOf bytes fields) → has_parts fields ≡ false → SaysAs null of.d
none_say bytes fields of none =
    let last = neither (is_some (value_at fields path.Frames) || is_some (value_at fields path.RequestHeaders)) (is_some (value_at fields path.ResponseHeaders)) none in
    let first = neither (is_some (value_at fields path.Frames)) (is_some (value_at fields path.RequestHeaders)) last.0 in
    record {
      frames = ap frames_given (sym (no_part 0 fields of.d of.gives of.keys path.Frames (omega arith) (λ _. refl) first.0));
      request_headers = ap (headers_given path.RequestHeaders) (sym (no_part 0 fields of.d of.gives of.keys path.RequestHeaders (omega arith) (λ _. refl) first.1));
      response_headers = ap (headers_given path.ResponseHeaders) (sym (no_part 0 fields of.d of.gives of.keys path.ResponseHeaders (omega arith) (λ _. refl) last.1));
    }

-- ---- some are given

pub tree_says : (bytes text : List ℕ) (result : Result Value Fault) → text ≡ bytes → IsUtf8 bytes
    → IfOk result (λ kept. (d : Data) × (read text ≡ Some d) × SaysAs (view kept) d) → IfOk result (λ kept. (d : Data) × (tree_of bytes ≡ Some d) × SaysAs (view kept) d)
tree_says bytes text (Ok kept) same utf8 h = (h.0, sym (tree_of_read bytes h.0 utf8 (ap read (sym same) ∙ h.1)), h.2)
tree_says bytes text (Err fault) same utf8 h = tt

-- ---- the request

by_tree : (n : ℕ) (fields : List Field) (kept d : Data) → SaysAs kept d → request_from n fields (Some kept) ≡ request_from n fields (Some d)
unfolding request_from
by_tree n fields kept d says = rw (says.frames, says.request_headers, says.response_headers)

pub request_by_parts : (n : ℕ) (fields : List Field) (kept d : Data) (tree : Option Data) → tree ≡ Some d → SaysAs kept d → request_from n fields (Some kept) ≡ request_from n fields tree
request_by_parts n fields kept d tree is says = by_tree n fields kept d says ∙ sym (ap (request_from n fields) is)
