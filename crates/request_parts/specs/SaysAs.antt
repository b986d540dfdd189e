-- When one value stands for another as the frames and the headers of a line.
use Rattle.std.specs.Prelude.{◌≡◌}
use Rattle.serde_json.specs.Data.{Data}
use Rattle.line_spec.specs.declared.command_path.CommandPath.{CommandPath}
use Rattle.line_spec.specs.declared.command_path.CommandPath.TheVariants as path
use Rattle.line_spec.specs.RequestLine.{field_at, frames_given, headers_given}

-- the headers of one line are those of the other, at this key
abbrev pub SaysHeadersAs : CommandPath → Data → Data → Type 0
SaysHeadersAs field kept d = headers_given field (field_at field kept) ≡ headers_given field (field_at field d)

-- one line says of the frames and the headers of a request what the other does
pub record SaysAs (kept d : Data) : Type 0 where
  pub frames : frames_given (field_at path.Frames kept) ≡ frames_given (field_at path.Frames d)
  pub request_headers : SaysHeadersAs path.RequestHeaders kept d
  pub response_headers : SaysHeadersAs path.ResponseHeaders kept d
