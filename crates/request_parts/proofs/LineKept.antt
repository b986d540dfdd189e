-- A line of which only what has its form was kept says of frames and headers what the whole does.
use Rattle.std.proofs.Common.{◌≡◌, ℕ, List, Some, Result, Ok, Err, codes, refl}
use Rattle.std.specs.Prelude.{IfOk}
use Rattle.json.specs.Token.{Token}
use Rattle.serde_json.specs.Data.{Data}
use Rattle.serde_json.specs.View.{view}
use Rattle.serde_json.specs.declared.value.Value.{Value}
use Rattle.line_spec.specs.declared.command_path.CommandPath.TheVariants as path
use Rattle.line_spec.specs.RequestLine.{frames_given, headers_given}
use Rattle.json_fields.specs.declared.tree.Fault.{Fault}
use Rattle.json_fields.specs.Last.{value_at}
use Rattle.request_parts.specs.declared.part.RequestPart.TheVariants as part
use Rattle.request_parts.specs.Parts.{KeptAs}
use Rattle.request_parts.specs.SaysAs.{SaysAs}
use Rattle.request_parts.proofs.Parts.{member_same, frames_same, headers_same}

says_as : (n : ℕ) (d e : Data) → KeptAs n part.Line d e → SaysAs e d
says_as n d e h = record {
  frames = member_same part.Line part.Frames (codes "frames") frames_given refl refl frames_same n d e h;
  request_headers = member_same part.Line part.Headers (codes "requestHeaders") (headers_given path.RequestHeaders) refl refl (headers_same path.RequestHeaders) n d e h;
  response_headers = member_same part.Line part.Headers (codes "responseHeaders") (headers_given path.ResponseHeaders) refl refl (headers_same path.ResponseHeaders) n d e h;
}

pub kept_says : (depth : ℕ) (ts rest : List Token) (result : Result Value Fault)
    → IfOk result (λ kept. (d : Data) × (value_at depth ts ≡ Some (d, rest)) × KeptAs depth part.Line d (view kept)) → IfOk result (λ kept. (d : Data) × (value_at depth ts ≡ Some (d, rest)) × SaysAs (view kept) d)
kept_says depth ts rest (Ok kept) h = (h.0, h.1, says_as depth h.0 (view kept) h.2)
kept_says depth ts rest (Err fault) h = tt
