-- The options of a filter that are known: Adblock Plus, "How to write filters", "Filter options".
use Rattle.std.specs.Prelude.{ℕ, List, [], ◌∷◌, codes, Option}
use Rattle.std.specs.List.{find}
use Rattle.std.specs.Str.{bytes_eq}
use Rattle.list_spec.specs.declared.option_name.OptionName.{OptionName}
use Rattle.list_spec.specs.declared.option_name.OptionName.TheVariants.{Script, Image, Stylesheet, Object, XmlHttpRequest, Ping, WebSocket, Font, Media, Subdocument, Other, ThirdParty, Domain, MatchCase, Document}

-- how a filter writes it
abbrev pub option_text : OptionName → List ℕ
option_text Script = codes "script"
option_text Image = codes "image"
option_text Stylesheet = codes "stylesheet"
option_text Object = codes "object"
option_text XmlHttpRequest = codes "xmlhttprequest"
option_text Ping = codes "ping"
option_text WebSocket = codes "websocket"
option_text Font = codes "font"
option_text Media = codes "media"
option_text Subdocument = codes "subdocument"
option_text Other = codes "other"
option_text ThirdParty = codes "third-party"
option_text Domain = codes "domain"
option_text MatchCase = codes "match-case"
option_text Document = codes "document"

abbrev pub all_options : List OptionName
all_options = Script ∷ Image ∷ Stylesheet ∷ Object ∷ XmlHttpRequest ∷ Ping ∷ WebSocket ∷ Font ∷ Media ∷ Subdocument ∷ Other ∷ ThirdParty ∷ Domain ∷ MatchCase ∷ Document ∷ []

-- the option of a name in lower case
abbrev pub option_named : List ℕ → Option OptionName
option_named name = find (λ option. bytes_eq (option_text option) name) all_options
