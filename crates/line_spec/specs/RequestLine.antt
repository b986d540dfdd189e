-- The request that an object asks for. Fields are tested in the order in which they stand here, and the first at fault
-- is named; keys that are not known are ignored.
use Rattle.std.specs.Prelude.{ℕ, ◌+◌, ℤ, negsuc, List, [], ◌∷◌, codes, Bool, not, ◌&&◌, nat_le, Option, Some, None, option_and_then, Result, Ok, Err, if◌then◌else◌}
use Rattle.std.specs.List.{list_any}
use Rattle.std.specs.Str.{bytes_eq, str_to_ascii_lowercase}
use Rattle.serde_json.specs.Data.{Data, null, string, Items, no_items, item}
use Rattle.serde_json.specs.Find.{get, as_str, as_array}
use Rattle.dnr_base.specs.declared.frame.Frame.{Frame}
use Rattle.dnr_base.specs.declared.header.Header.{Header}
use Rattle.dnr_base.specs.declared.kind.Kind.{Kind}
use Rattle.dnr_base.specs.declared.method.Method.{Method}
use Rattle.dnr_base.specs.declared.method.Method.TheVariants.{Get}
use Rattle.dnr_base.specs.declared.request.Request.{Request}
use Rattle.dnr_base.specs.Request.{max_frames, max_headers}
use Rattle.dnr_base.specs.View.{View, host_of}
use Rattle.dnr_spec.specs.declared.view_refusal.ViewRefusal.{ViewRefusal}
use Rattle.dnr_spec.specs.Headers.{is_name, ends_value}
use Rattle.dnr_spec.specs.UrlView.{view_of}
use Rattle.line_spec.specs.declared.command_path.CommandPath.{CommandPath}
use Rattle.line_spec.specs.declared.command_path.CommandPath.TheVariants as path
use Rattle.line_spec.specs.declared.line_fault.LineFault.{LineFault}
use Rattle.line_spec.specs.declared.line_fault.LineFault.TheVariants.{BadCommand, BadUrl}
use Rattle.line_spec.specs.CommandPath.{path_name}
use Rattle.line_spec.specs.Reading.{and_then}
use Rattle.json_spec.specs.RuleFields.{each, as_kind, as_method, as_tab}

-- ---- one field

-- what must be there
abbrev pub given : {X : Type 0} → CommandPath → Option X → Result X LineFault
given field None = Err (BadCommand field)
given field (Some x) = Ok x

-- a value of this form where one is given, and this one where none is
abbrev pub given_or : {X : Type 0} → X → CommandPath → (Data → Option X) → Option Data → Result X LineFault
given_or default field form None = Ok default
given_or default field form (Some d) = given field (form d)

abbrev pub field_at : CommandPath → Data → Option Data
field_at field d = get (path_name field) d

-- ---- URLs

abbrev pub unless_refused : CommandPath → Result View ViewRefusal → Result View LineFault
unless_refused field (Ok view) = Ok view
unless_refused field (Err why) = Err (BadUrl field why)

-- the URL of a text
abbrev pub view_at : CommandPath → List ℕ → Result View LineFault
view_at field text = unless_refused field (view_of text)

unfoldable pub url_in : Data → Result View LineFault
url_in d = and_then (given path.Url (option_and_then as_str (field_at path.Url d))) (view_at path.Url)

-- the text `null` is how an opaque origin is written (HTML, "ASCII serialization of an origin")
abbrev pub asking_host : CommandPath → List ℕ → Result (Option (List ℕ)) LineFault
asking_host field text =
    if bytes_eq text (codes "null") then Ok None
    else and_then (view_at field text) (λ view. Ok (Some (host_of view)))

-- the host of who asks, given by a URL or an origin, if anybody does
abbrev pub initiator_from : CommandPath → Option Data → Result (Option (List ℕ)) LineFault
initiator_from field None = Ok None
initiator_from field (Some null) = Ok None
initiator_from field (Some (string text)) = asking_host field text
initiator_from field (Some _) = Err (BadCommand field)

-- `field` is what a fault names: the initiator of the line itself or its frames
unfoldable pub initiator_in : CommandPath → Data → Result (Option (List ℕ)) LineFault
initiator_in field d = initiator_from field (field_at path.Initiator d)

-- ---- what is asked for

unfoldable pub kind_in : Data → Result Kind LineFault
kind_in d = given path.Kind (option_and_then as_kind (field_at path.Kind d))

unfoldable pub method_in : CommandPath → Data → Result Method LineFault
method_in field d = given_or Get field as_method (field_at path.Method d)

unfoldable pub tab_in : Data → Result ℤ LineFault
tab_in d = given_or (negsuc 0) path.Tab as_tab (field_at path.Tab d)

-- ---- frames

-- how many items a list has
abbrev pub count_of : Items → ℕ
count_of no_items = 0
count_of (item d items) = count_of items + 1

-- a frame says its URL, or by null that it has none
abbrev pub frame_url : Option Data → Result (Option View) LineFault
frame_url None = Err (BadCommand path.Frames)
frame_url (Some null) = Ok None
frame_url (Some (string text)) = and_then (view_at path.Frames text) (λ view. Ok (Some view))
frame_url (Some _) = Err (BadCommand path.Frames)

-- one frame: its URL, its initiator and its method, in this order
unfoldable pub frame_in : Data → Result Frame LineFault
frame_in d =
    and_then (frame_url (field_at path.Url d)) (λ view.
    and_then (initiator_in path.Frames d) (λ initiator.
    and_then (method_in path.Frames d) (λ method.
    Ok (record { view = view; initiator = initiator; method = method }))))

-- the frames in turn, up to the first at fault
abbrev pub each_frame : Items → Result (List Frame) LineFault
each_frame no_items = Ok []
each_frame (item d items) = and_then (frame_in d) (λ frame. and_then (each_frame items) (λ frames. Ok (frame ∷ frames)))

abbrev pub frames_from : Option Items → Result (List Frame) LineFault
frames_from None = Err (BadCommand path.Frames)
frames_from (Some items) = if nat_le (count_of items) max_frames then each_frame items else Err (BadCommand path.Frames)

abbrev pub frames_given : Option Data → Result (List Frame) LineFault
frames_given None = Ok []
frames_given (Some d) = frames_from (as_array d)

unfoldable pub frames_in : Data → Result (List Frame) LineFault
frames_in d = frames_given (field_at path.Frames d)

-- ---- headers

-- no CR, LF or NUL
abbrev pub is_one_value : List ℕ → Bool
is_one_value value = not (list_any ends_value value)

-- a field name (RFC 9110, section 5.1) in any case, and a value
abbrev pub header_of : Option (List ℕ) → Option (List ℕ) → Option Header
header_of None value = None
header_of (Some name) None = None
header_of (Some name) (Some value) =
    if is_name name && is_one_value value then Some (record { name = str_to_ascii_lowercase name; value = value }) else None

abbrev pub header_from : Items → Option Header
header_from (item name (item value no_items)) = header_of (as_str name) (as_str value)
header_from _ = None

-- `[NAME, VALUE]`
unfoldable pub as_header : Data → Option Header
as_header d = option_and_then header_from (as_array d)

abbrev pub few_headers : Items → Option (List Header)
few_headers items = if nat_le (count_of items) max_headers then each as_header items else None

abbrev pub as_headers : Data → Option (List Header)
as_headers d = option_and_then few_headers (as_array d)

abbrev pub headers_given : CommandPath → Option Data → Result (Option (List Header)) LineFault
headers_given field None = Ok None
headers_given field (Some d) = and_then (given field (as_headers d)) (λ headers. Ok (Some headers))

unfoldable pub headers_in : CommandPath → Data → Result (Option (List Header)) LineFault
headers_in field d = headers_given field (field_at field d)

-- ---- requests

-- the request that an object asks for on the line of this number
unfoldable pub request_in : ℕ → Data → Result Request LineFault
request_in number d =
    and_then (url_in d) (λ view.
    and_then (kind_in d) (λ kind.
    and_then (initiator_in path.Initiator d) (λ initiator.
    and_then (method_in path.Method d) (λ method.
    and_then (tab_in d) (λ tab.
    and_then (frames_in d) (λ frames.
    and_then (headers_in path.RequestHeaders d) (λ request_headers.
    and_then (headers_in path.ResponseHeaders d) (λ response_headers.
    Ok (record {
      line = number;
      view = view;
      initiator = initiator;
      kind = kind;
      method = method;
      tab = tab;
      frames = frames;
      request_headers = request_headers;
      response_headers = response_headers;
    })))))))))
