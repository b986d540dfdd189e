-- The request of parts: each reads as the same text in a line does, in the same order. A text that is no UTF-8 is at fault as
-- a field of another form is.
use Rattle.std.specs.Prelude.{ℕ, ℤ, pos, negsuc, List, [], ◌∷◌, length, Bool, true, false, nat_le, Option, Some, None, Result, Ok, Err, if◌then◌else◌}
use Rattle.std.specs.List.{slice_get}
use Rattle.std.specs.Str.{is_utf8}
use Rattle.dnr_base.specs.declared.frame.Frame.{Frame}
use Rattle.dnr_base.specs.declared.header.Header.{Header}
use Rattle.dnr_base.specs.declared.kind.Kind.{Kind}
use Rattle.dnr_base.specs.declared.method.Method.{Method}
use Rattle.dnr_base.specs.declared.request.Request.{Request}
use Rattle.dnr_base.specs.Kind.{all_kinds}
use Rattle.dnr_base.specs.Method.{all_methods}
use Rattle.dnr_base.specs.Request.{max_frames, max_headers}
use Rattle.dnr_base.specs.View.{View}
use Rattle.line_spec.specs.declared.command_path.CommandPath.{CommandPath}
use Rattle.line_spec.specs.declared.command_path.CommandPath.TheVariants as path
use Rattle.line_spec.specs.declared.line_fault.LineFault.{LineFault}
use Rattle.line_spec.specs.declared.line_fault.LineFault.TheVariants.{BadCommand}
use Rattle.line_spec.specs.Reading.{and_then}
use Rattle.line_spec.specs.RequestLine.{given, view_at, asking_host, header_of}
use Rattle.request_given.specs.declared.given.GivenFrame.{GivenFrame}
use Rattle.request_given.specs.declared.given.GivenHeader.{GivenHeader}
use Rattle.request_given.specs.declared.given.GivenRequest.{GivenRequest}

-- ---- one part

-- the bytes, if they are a text
abbrev pub as_text : List ℕ → Option (List ℕ)
as_text bytes = if is_utf8 bytes then Some bytes else None

-- the URL of a text
abbrev pub url_of : CommandPath → List ℕ → Result View LineFault
url_of part bytes = and_then (given part (as_text bytes)) (view_at part)

-- the host of who asks, if anybody does
abbrev pub asker_of : CommandPath → Bool → List ℕ → Result (Option (List ℕ)) LineFault
asker_of part false bytes = Ok None
asker_of part true bytes = and_then (given part (as_text bytes)) (asking_host part)

-- the type and the method at a place of Chrome's lists
abbrev pub kind_at : ℕ → Result Kind LineFault
kind_at place = given path.Kind (slice_get all_kinds place)

abbrev pub method_at : CommandPath → ℕ → Result Method LineFault
method_at part place = given part (slice_get all_methods place)

-- the tab, and -1 for none
abbrev pub tab_of : Bool → ℕ → Result ℤ LineFault
tab_of false tab = Ok (negsuc 0)
tab_of true tab = if nat_le tab 2147483647 then Ok (pos tab) else Err (BadCommand path.Tab)

-- ---- lists

-- each in turn, up to the first at fault
abbrev pub each_of : {A X : Type 0} → (A → Result X LineFault) → List A → Result (List X) LineFault
each_of read [] = Ok []
each_of read (a ∷ rest) = and_then (read a) (λ x. and_then (each_of read rest) (λ xs. Ok (x ∷ xs)))

abbrev pub frame_url : Bool → List ℕ → Result (Option View) LineFault
frame_url false bytes = Ok None
frame_url true bytes = and_then (url_of path.Frames bytes) (λ view. Ok (Some view))

-- one frame: its URL, its initiator and its method, in this order
unfoldable pub frame_of : GivenFrame → Result Frame LineFault
frame_of frame =
    and_then (frame_url frame.has_url frame.url.now) (λ view.
    and_then (asker_of path.Frames frame.has_initiator frame.initiator.now) (λ initiator.
    and_then (method_at path.Frames frame.method) (λ method.
    Ok (record { view = view; initiator = initiator; method = method }))))

abbrev pub frames_of : List GivenFrame → Result (List Frame) LineFault
frames_of frames = if nat_le (length frames) max_frames then each_of frame_of frames else Err (BadCommand path.Frames)

abbrev pub header_at : CommandPath → GivenHeader → Result Header LineFault
header_at part header = given part (header_of (as_text header.name.now) (as_text header.value.now))

abbrev pub few_headers : CommandPath → List GivenHeader → Result (List Header) LineFault
few_headers part headers = if nat_le (length headers) max_headers then each_of (header_at part) headers else Err (BadCommand part)

abbrev pub headers_of : CommandPath → Bool → List GivenHeader → Result (Option (List Header)) LineFault
headers_of part false headers = Ok None
headers_of part true headers = and_then (few_headers part headers) (λ read. Ok (Some read))

-- ---- requests

-- the request of these parts, which has this number
unfoldable pub request_of : ℕ → GivenRequest → Result Request LineFault
request_of number r =
    and_then (url_of path.Url r.url.now) (λ view.
    and_then (kind_at r.kind) (λ kind.
    and_then (asker_of path.Initiator r.has_initiator r.initiator.now) (λ initiator.
    and_then (method_at path.Method r.method) (λ method.
    and_then (tab_of r.has_tab r.tab) (λ tab.
    and_then (frames_of r.frames.now) (λ frames.
    and_then (headers_of path.RequestHeaders r.has_request_headers r.request_headers.now) (λ request_headers.
    and_then (headers_of path.ResponseHeaders r.has_response_headers r.response_headers.now) (λ response_headers.
    Ok (record {
      line = number;
      view = view;
      initiator = initiator;
      kind = kind;
      method = method;
      tab = tab;
      frames = frames;
      request_headers = request_headers;
      response_headers = response_headers;
    })))))))))
