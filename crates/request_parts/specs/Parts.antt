-- The parts of a request as JSON: the values that are read there, and the parts that they hold.
use Rattle.std.specs.Prelude.{ℕ, List, codes, Bool, true, Option, Some, None, if◌then◌else◌}
use Rattle.std.specs.Str.{bytes_eq}
use Rattle.serde_json.specs.Data.{Data}
use Rattle.dnr_base.specs.Request.{max_frames, max_headers}
use Rattle.json_fields.specs.declared.shape.Wanted.{Wanted}
use Rattle.json_fields.specs.declared.shape.Wanted.TheVariants as wanted
use Rattle.json_fields.specs.Shapes.{Kept}
use Rattle.request_parts.specs.declared.part.RequestPart.{RequestPart}
use Rattle.request_parts.specs.declared.part.RequestPart.TheVariants as part

abbrev pub wanted_at : RequestPart → Wanted
wanted_at part.Line = wanted.Object
wanted_at part.Frames = wanted.Few max_frames
wanted_at part.Frame = wanted.Object
wanted_at part.Headers = wanted.Few max_headers
wanted_at part.Header = wanted.Few 2
wanted_at part.TextOrNull = wanted.TextOrNull
wanted_at part.Text = wanted.Text

abbrev pub item_of : RequestPart → RequestPart
item_of part.Frames = part.Frame
item_of part.Headers = part.Header
item_of _ = part.Text

abbrev pub line_member : List ℕ → Option RequestPart
line_member name =
    if bytes_eq name (codes "frames") then Some part.Frames
    else (if bytes_eq name (codes "requestHeaders") then Some part.Headers
    else (if bytes_eq name (codes "responseHeaders") then Some part.Headers else None))

abbrev pub frame_member : List ℕ → Option RequestPart
frame_member name =
    if bytes_eq name (codes "url") then Some part.TextOrNull
    else (if bytes_eq name (codes "initiator") then Some part.TextOrNull
    else (if bytes_eq name (codes "method") then Some part.Text else None))

-- the part at a key, if something is read there
abbrev pub member_of : RequestPart → List ℕ → Option RequestPart
member_of part.Line name = line_member name
member_of part.Frame name = frame_member name
member_of _ name = None

abbrev pub accepts_at : RequestPart → Data → Bool
accepts_at at d = true

-- what is kept of a value that stands at a part, nested no deeper than so
abbrev pub KeptAs : ℕ → RequestPart → Data → Data → Type 0
KeptAs depth at d e = Kept wanted_at item_of member_of accepts_at depth at d e
