-- Examples of script lines that ask for a request, each computed from the definitions alone.
use Rattle.std.specs.Prelude.{◌≡◌, ℕ, pos, negsuc, List, [], ◌∷◌, ◌++◌, codes, Option, Some, None, Result, Ok, Err}
use Rattle.dnr_base.specs.declared.frame.Frame.{Frame}
use Rattle.dnr_base.specs.declared.header.Header.{Header}
use Rattle.dnr_base.specs.declared.kind.Kind.TheVariants.{Image}
use Rattle.dnr_base.specs.declared.method.Method.TheVariants.{Get, Post}
use Rattle.dnr_base.specs.declared.request.Request.{Request}
use Rattle.dnr_base.specs.declared.scheme.Scheme.TheVariants.{Http}
use Rattle.dnr_base.specs.View.{View}
use Rattle.dnr_spec.specs.declared.view_refusal.ViewRefusal.TheVariants as why
use Rattle.line_spec.specs.declared.command_path.CommandPath.{CommandPath}
use Rattle.line_spec.specs.declared.command_path.CommandPath.TheVariants as path
use Rattle.line_spec.specs.declared.line_fault.LineFault.{LineFault}
use Rattle.line_spec.specs.declared.line_fault.LineFault.TheVariants.{BadJson, BadCommand, BadUrl}
use Rattle.line_spec.specs.Line.{Command, blank, request, explain, command_of}

-- ---- what is read

-- the view of `http://a.com/`
abbrev pub page : View
page = record { full = codes "http://a.com/"; cut = 13; scheme = Http; host = record { start = 7; end = 12 } }

-- what a line asks for that gives a URL and a type alone
abbrev pub plain : Request
plain = record {
  line = 1;
  view = page;
  initiator = None;
  kind = Image;
  method = Get;
  tab = negsuc 0;
  frames = [];
  request_headers = None;
  response_headers = None;
}

-- a line with a URL, a type and these fields
abbrev pub asking : List ℕ → List ℕ
asking fields = codes "{\"url\":\"http://a.com/\",\"type\":\"image\"" ++ fields ++ codes "}"

abbrev pub reads_as : Request → Result Command LineFault
reads_as r = Ok (request r)

abbrev pub lacks : CommandPath → Result Command LineFault
lacks field = Err (BadCommand field)

-- a frame whose document has a URL, or none, and that nobody asked for
abbrev pub frame_of : Option View → Frame
frame_of view = record { view = view; initiator = None; method = Get }

-- ---- lines

-- Spaces and tabs alone are no command; JSON that is cut off is no tree.
abbrev pub BlankLinesAreCommands : Type 0
BlankLinesAreCommands =
    (command_of 1 [] ≡ Ok blank)
    × (command_of 1 (32 ∷ 9 ∷ []) ≡ Ok blank)
    × (command_of 1 (32 ∷ 13 ∷ []) ≡ Err BadJson)
    × (command_of 1 (codes "{\"url\":") ≡ Err BadJson)

-- What is asked for is a request unless the line says otherwise, and a name that is not known is at fault.
abbrev pub CommandsHaveNames : Type 0
CommandsHaveNames =
    (command_of 1 (asking []) ≡ reads_as plain)
    × (command_of 1 (asking (codes ",\"cmd\":\"request\"")) ≡ reads_as plain)
    × (command_of 1 (asking (codes ",\"cmd\":\"explain\"")) ≡ Ok (explain plain))
    × (command_of 1 (asking (codes ",\"cmd\":\"Request\"")) ≡ lacks path.Cmd)
    × (command_of 1 (asking (codes ",\"cmd\":null")) ≡ lacks path.Cmd)
    × (command_of 1 (codes "[]") ≡ lacks path.Cmd)

-- Fields are tested in their order, and the first at fault is named.
abbrev pub FirstFieldAtFaultIsNamed : Type 0
FirstFieldAtFaultIsNamed =
    (command_of 1 (codes "{\"type\":\"page\"}") ≡ lacks path.Url)
    × (command_of 1 (codes "{\"type\":\"page\",\"url\":\"http://a.com/\",\"tab\":null}") ≡ lacks path.Kind)
    × (command_of 1 (codes "{\"type\":\"page\",\"url\":\"file:///x\"}") ≡ Err (BadUrl path.Url why.BadScheme))
    × (command_of 1 (asking (codes ",\"frames\":null,\"method\":\"GET\"")) ≡ lacks path.Method)

-- Of a key that is repeated the last value counts, and a key that is not known does not.
abbrev pub LastOfAKeyCounts : Type 0
LastOfAKeyCounts = command_of 1 (codes "{\"url\":1,\"type\":\"page\",\"url\":\"http://a.com/\",\"type\":\"image\",\"Tab\":7}") ≡ reads_as plain

-- ---- fields

-- A text may be no URL, or one that is not decided for its scheme or its host.
abbrev pub UrlsAreRefusedByName : Type 0
UrlsAreRefusedByName =
    (command_of 1 (codes "{\"url\":\"a.com\"}") ≡ Err (BadUrl path.Url why.BadUrl))
    × (command_of 1 (codes "{\"url\":\"http://a!b.com/\"}") ≡ Err (BadUrl path.Url why.BadHost))

-- Who asks is named by a URL or an origin, of which the host is kept, or is nobody.
abbrev pub InitiatorsAreHosts : Type 0
InitiatorsAreHosts =
    (command_of 1 (asking (codes ",\"initiator\":\"http://B.org:8080/x\"")) ≡ reads_as (record plain { initiator = Some (codes "b.org") }))
    × (command_of 1 (asking (codes ",\"initiator\":null")) ≡ reads_as plain)
    × (command_of 1 (asking (codes ",\"initiator\":\"null\"")) ≡ reads_as plain)
    × (command_of 1 (asking (codes ",\"initiator\":\"b.org\"")) ≡ Err (BadUrl path.Initiator why.BadUrl))
    × (command_of 1 (asking (codes ",\"initiator\":false")) ≡ lacks path.Initiator)

-- A tab is a whole number of the range of Chrome's tab ids, or -1.
abbrev pub TabsHaveARange : Type 0
TabsHaveARange =
    (command_of 1 (asking (codes ",\"tab\":2147483647")) ≡ reads_as (record plain { tab = pos 2147483647 }))
    × (command_of 1 (asking (codes ",\"tab\":-1")) ≡ reads_as plain)
    × (command_of 1 (asking (codes ",\"tab\":2147483648")) ≡ lacks path.Tab)
    × (command_of 1 (asking (codes ",\"tab\":-2")) ≡ lacks path.Tab)
    × (command_of 1 (asking (codes ",\"tab\":\"1\"")) ≡ lacks path.Tab)

-- A frame says that it has no URL.
abbrev pub FramesNameTheirUrl : Type 0
FramesNameTheirUrl =
    (command_of 1 (asking (codes ",\"frames\":[{\"url\":\"http://a.com/\"},{\"url\":null,\"initiator\":\"http://a.com\",\"method\":\"post\"}]"))
    ≡ reads_as (record plain { frames = frame_of (Some page) ∷ record { view = None; initiator = Some (codes "a.com"); method = Post } ∷ [] }))
    × (command_of 1 (asking (codes ",\"frames\":[]")) ≡ reads_as plain)
    × (command_of 1 (asking (codes ",\"frames\":[{}]")) ≡ lacks path.Frames)
    × (command_of 1 (asking (codes ",\"frames\":null")) ≡ lacks path.Frames)

-- Frames are read one by one, and what is wrong with one of them is a fault of `frames`.
abbrev pub FirstFrameAtFaultCounts : Type 0
FirstFrameAtFaultCounts =
    (command_of 1 (asking (codes ",\"frames\":[{\"url\":null,\"initiator\":\"x\"},1]")) ≡ Err (BadUrl path.Frames why.BadUrl))
    × (command_of 1 (asking (codes ",\"frames\":[1,{\"url\":\"x\"}]")) ≡ lacks path.Frames)
    × (command_of 1 (asking (codes ",\"frames\":[{\"url\":\"file:///x\",\"method\":1}]")) ≡ Err (BadUrl path.Frames why.BadScheme))

abbrev pub two_headers : List Header
two_headers = record { name = codes "x-a"; value = codes "1" } ∷ record { name = codes "accept"; value = [] } ∷ []

-- A header's name is kept in lower case; a list may be there and empty.
abbrev pub HeadersArePairs : Type 0
HeadersArePairs =
    (command_of 1 (asking (codes ",\"requestHeaders\":[[\"X-A\",\"1\"],[\"accept\",\"\"]],\"responseHeaders\":[]"))
    ≡ reads_as (record plain { request_headers = Some two_headers; response_headers = Some [] }))
    × (command_of 1 (asking (codes ",\"requestHeaders\":[[\"a b\",\"1\"]]")) ≡ lacks path.RequestHeaders)
    × (command_of 1 (asking (codes ",\"requestHeaders\":[[\"a\",\"1\",\"2\"]]")) ≡ lacks path.RequestHeaders)
    × (command_of 1 (asking (codes ",\"responseHeaders\":[[\"a\",\"1\\n2\"]]")) ≡ lacks path.ResponseHeaders)
    × (command_of 1 (asking (codes ",\"responseHeaders\":{}")) ≡ lacks path.ResponseHeaders)
