-- The resource types of a request: Chrome's reference of declarativeNetRequest, `ResourceType`.
use Rattle.std.specs.Prelude.{ℕ, List, [], ◌∷◌, Bool, ◌==◌, codes, Option}
use Rattle.std.specs.List.{find, list_any}
use Rattle.std.specs.Str.{bytes_eq}
use Rattle.dnr_base.specs.declared.kind.Kind.{Kind}
use Rattle.dnr_base.specs.declared.kind.Kind.TheVariants.{MainFrame, SubFrame, Stylesheet, Script, Image, Font, Object, XmlHttpRequest, Ping, CspReport, Media, WebSocket, WebTransport, WebBundle, Other}

-- all of them, in the order of the reference
abbrev pub all_kinds : List Kind
all_kinds = MainFrame ∷ SubFrame ∷ Stylesheet ∷ Script ∷ Image ∷ Font ∷ Object ∷ XmlHttpRequest ∷ Ping ∷ CspReport ∷ Media ∷ WebSocket ∷ WebTransport ∷ WebBundle ∷ Other ∷ []

-- all but `main_frame`: those on which a rule holds that lists no type
abbrev pub default_kinds : List Kind
default_kinds = SubFrame ∷ Stylesheet ∷ Script ∷ Image ∷ Font ∷ Object ∷ XmlHttpRequest ∷ Ping ∷ CspReport ∷ Media ∷ WebSocket ∷ WebTransport ∷ WebBundle ∷ Other ∷ []

-- how the reference writes it
abbrev pub name_of : Kind → List ℕ
name_of MainFrame = codes "main_frame"
name_of SubFrame = codes "sub_frame"
name_of Stylesheet = codes "stylesheet"
name_of Script = codes "script"
name_of Image = codes "image"
name_of Font = codes "font"
name_of Object = codes "object"
name_of XmlHttpRequest = codes "xmlhttprequest"
name_of Ping = codes "ping"
name_of CspReport = codes "csp_report"
name_of Media = codes "media"
name_of WebSocket = codes "websocket"
name_of WebTransport = codes "webtransport"
name_of WebBundle = codes "webbundle"
name_of Other = codes "other"

-- the type of a name
abbrev pub kind_named : List ℕ → Option Kind
kind_named name = find (λ kind. bytes_eq (name_of kind) name) all_kinds

-- its place in the reference
abbrev pub place_of : Kind → ℕ
place_of MainFrame = 0
place_of SubFrame = 1
place_of Stylesheet = 2
place_of Script = 3
place_of Image = 4
place_of Font = 5
place_of Object = 6
place_of XmlHttpRequest = 7
place_of Ping = 8
place_of CspReport = 9
place_of Media = 10
place_of WebSocket = 11
place_of WebTransport = 12
place_of WebBundle = 13
place_of Other = 14

abbrev pub same_kind : Kind → Kind → Bool
same_kind a b = place_of a == place_of b

-- a list of types is taken as a set: this one is in it
abbrev pub has_kind : List Kind → Kind → Bool
has_kind kinds kind = list_any (λ other. same_kind kind other) kinds
