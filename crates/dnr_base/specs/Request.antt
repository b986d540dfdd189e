-- A request, and the parts of it that rules are tested on.
use Rattle.std.specs.Prelude.{ℕ, ℤ, ◌≤◌, List, length, IsTrue, Option, None, option_map, option_and_then, slice_get, IfSome, Bool, ◌&&◌, ◌==◌, nat_le, if◌then◌else◌}
use Rattle.std.specs.List.{list_all}
use Rattle.http_header.specs.FieldName.{is_header_name}
use Rattle.dnr_base.specs.declared.kind.Kind.{Kind}
use Rattle.dnr_base.specs.declared.kind.Kind.TheVariants.{MainFrame, SubFrame}
use Rattle.dnr_base.specs.declared.method.Method.{Method}
use Rattle.dnr_base.specs.declared.header.Header.{Header}
use Rattle.dnr_base.specs.declared.frame.Frame.{Frame}
use Rattle.dnr_base.specs.declared.request.Request.{Request}
use Rattle.dnr_base.specs.View.{View}

-- what rules are tested on: a URL, the host of who asks for it, what for, how, in which tab, and the headers of its
-- response, if it carries them
pub record Part : Type 0 where
  pub view : View
  pub initiator : Option (List ℕ)
  pub kind : Kind
  pub method : Method
  pub tab : ℤ
  pub response_headers : Option (List Header)

-- what the request says of itself
abbrev pub own_part : Request → Part
own_part request = record {
  view = request.view;
  initiator = request.initiator;
  kind = request.kind;
  method = request.method;
  tab = request.tab;
  response_headers = request.response_headers;
}

-- the outermost frame is the tab's main frame, and each other one a frame inside
abbrev pub frame_kind : ℕ → Kind
frame_kind place = if place == 0 then MainFrame else SubFrame

-- what a frame with this URL says of its own document, which was asked for in the request's tab; it carries no headers
abbrev pub frame_part_at : Request → ℕ → Frame → View → Part
frame_part_at request place frame view = record {
  view = view;
  initiator = frame.initiator;
  kind = frame_kind place;
  method = frame.method;
  tab = request.tab;
  response_headers = None;
}

-- the part of a frame, if it has a URL
abbrev pub frame_part_of : Request → ℕ → Frame → Option Part
frame_part_of request place frame = option_map (frame_part_at request place frame) frame.view

-- none where there is no such frame, or it has no URL
abbrev pub frame_part : Request → ℕ → Option Part
frame_part request place = option_and_then (frame_part_of request place) (slice_get request.frames place)

-- the most frames of a request, the most headers of one of its lists, and the most bytes of a header's name
abbrev pub max_frames : ℕ
max_frames = 64

abbrev pub max_headers : ℕ
max_headers = 512

abbrev pub max_header_name : ℕ
max_header_name = 256

-- the name of a header in lower case: a token of RFC 9110, section 5.6.2
abbrev pub is_short_name : List ℕ → Bool
is_short_name name = is_header_name name && nat_le (length name) max_header_name

-- a list of headers that a request may carry
pub record IsHeaderList (headers : List Header) : Type 0 where
  pub few : length headers ≤ max_headers
  pub names : IsTrue (list_all (λ header. is_short_name header.name) headers)

-- what every request keeps that is read from a line
pub record IsRequest (request : Request) : Type 0 where
  pub frames : length request.frames ≤ max_frames
  pub request_headers : IfSome request.request_headers IsHeaderList
  pub response_headers : IfSome request.response_headers IsHeaderList
