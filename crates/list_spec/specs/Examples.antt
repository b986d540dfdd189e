-- Examples, each computed from the definitions alone.
use Rattle.std.specs.Prelude.{◌≡◌, ℕ, List, [], ◌∷◌, codes, true, false, Some, None, map}
use Rattle.dnr_base.specs.declared.kind.Kind.TheVariants as kind
use Rattle.dnr_base.specs.Kind.{default_kinds}
use Rattle.list_spec.specs.declared.domain_entry.DomainEntry.{DomainEntry}
use Rattle.list_spec.specs.declared.reason.Reason.TheVariants as reason
use Rattle.list_spec.specs.LineKind.{FilterLine, FilterPattern, blank, comment, header, filter_line, unsupported, every_url, plain, regex, line_of}

abbrev listed : List ℕ → DomainEntry
listed domain = record { domain = domain; excluded = false }

abbrev excluded : List ℕ → DomainEntry
excluded domain = record { domain = domain; excluded = true }

-- a filter with this pattern that asks for nothing else
abbrev bare : FilterPattern → FilterLine
bare pattern = record { exception = false; pattern = pattern; match_case = false; third_party = None; domains = []; kinds = default_kinds; document = false }

-- A list has each kind of line.
abbrev pub KindsOfLines : Type 0
KindsOfLines =
    map line_of (codes " \t\r" ∷ codes "! Title: t" ∷ codes "[Adblock Plus 2.0]\r" ∷ codes "a.com##.ad" ∷ codes "/banner[0-9]+\\.gif/" ∷ codes "||ads.com^" ∷ [])
    ≡ blank ∷ comment ∷ header ∷ unsupported reason.ElementHiding ∷ filter_line (bare (regex (codes "banner[0-9]+\\.gif"))) ∷ filter_line (bare (plain (codes "||ads.com^"))) ∷ []

-- The options stand behind the leftmost `$` that allows it, and where none does the `$` is part of the pattern.
abbrev pub CutsStandAtTheLeftmostDollar : Type 0
CutsStandAtTheLeftmostDollar =
    map line_of (codes "a$b$script" ∷ codes "a$third-party,domain=b.c$d" ∷ codes "a$/b" ∷ codes "a$" ∷ codes "$script,,image" ∷ [])
    ≡ filter_line (record (bare (plain (codes "a$b"))) { kinds = kind.Script ∷ [] })
    ∷ unsupported reason.BadDomain
    ∷ filter_line (bare (plain (codes "a$/b"))) ∷ filter_line (bare (plain (codes "a$"))) ∷ filter_line (bare (plain (codes "$script,,image"))) ∷ []

-- Types add up from none, or are taken from all but `main_frame`, by the first option that speaks of types.
abbrev pub TypesAreFolded : Type 0
TypesAreFolded =
    map line_of (codes "a$image,~image" ∷ codes "a$IMAGE,script" ∷ codes "@@a$document" ∷ codes "@@$~document,~other,~subdocument" ∷ [])
    ≡ filter_line (record (bare (plain (codes "a"))) { kinds = [] })
    ∷ filter_line (record (bare (plain (codes "a"))) { kinds = kind.Script ∷ kind.Image ∷ [] })
    ∷ filter_line (record (bare (plain (codes "a"))) { exception = true; kinds = []; document = true })
    ∷ filter_line (
    record (bare every_url) {
      exception = true;
      kinds = kind.Stylesheet ∷ kind.Script ∷ kind.Image ∷ kind.Font ∷ kind.Object ∷ kind.XmlHttpRequest ∷ kind.Ping ∷ kind.Media ∷ kind.WebSocket ∷ [];
    }
    )
    ∷ []

-- Domains are listed or excluded, in lower case, but none is both.
abbrev pub DomainsAreToldApart : Type 0
DomainsAreToldApart =
    map line_of (codes "||ads.com^$third-party,domain=b.com|~C.b.com" ∷ codes "a$domain=A.com|~a.com" ∷ codes "a$domain=" ∷ codes "a$domain=a.com|" ∷ codes "a$domain=a.com,domain=b.com" ∷ [])
    ≡ filter_line (record (bare (plain (codes "||ads.com^"))) { third_party = Some true; domains = listed (codes "b.com") ∷ excluded (codes "c.b.com") ∷ [] })
    ∷ unsupported (reason.OptionValue (codes "domain")) ∷ unsupported (reason.OptionValue (codes "domain")) ∷ unsupported (reason.OptionValue (codes "domain"))
    ∷ unsupported (reason.OptionValue (codes "domain")) ∷ []

-- The first option at fault is named, and the pattern is judged after all options.
abbrev pub FaultsComeInOrder : Type 0
FaultsComeInOrder =
    map line_of (codes "a$script=1,popup" ∷ codes "||*$~Popup" ∷ codes "a$document,x" ∷ codes "@@" ∷ codes "||*a" ∷ codes "a b" ∷ [])
    ≡ unsupported (reason.OptionValue (codes "script")) ∷ unsupported (reason.UnknownOption (codes "popup")) ∷ unsupported reason.DocumentOnBlock ∷ unsupported reason.EmptyPattern
    ∷ unsupported reason.AnchorStar ∷ unsupported reason.Space ∷ []
