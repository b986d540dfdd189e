-- Examples, each computed from the definitions alone.
use Rattle.std.specs.Prelude.{◌≡◌, ℕ, List, [], ◌∷◌, ◌++◌, codes, map, length, ◌<◌, true, false}
use Rattle.list_spec.specs.declared.domain_entry.DomainEntry.{DomainEntry}
use Rattle.list_spec.specs.LineKind.{lines_of, max_list_line}
use Rattle.hide_spec.specs.declared.hide_reason.HideReason.TheVariants.{LineTooLong, HideSyntax, NotUtf8, BadDomain, EmptySelector, BothDomains}
use Rattle.hide_spec.specs.HidingLine.{HideLine, other, hiding, unsupported, hide_line_of}
use Rattle.hide_spec.specs.Hidden.{hidden, is_page_host}
use Rattle.hide_spec.specs.Report.{hide_report}

abbrev listed : List ℕ → DomainEntry
listed domain = record { domain = domain; excluded = false }

abbrev excluded : List ℕ → DomainEntry
excluded domain = record { domain = domain; excluded = true }

-- a line that hides elements, and one that keeps them
abbrev hides : List DomainEntry → List ℕ → HideLine
hides domains selector = hiding (record { exception = false; domains = domains; selector = selector })

abbrev keeps : List DomainEntry → List ℕ → HideLine
keeps domains selector = hiding (record { exception = true; domains = domains; selector = selector })

-- ---- pages

-- a list of three lines that are used and one that is not
abbrev pub small_list : List ℕ
small_list = codes "a.com,~b.a.com##.ad\n##.banner\nb.a.com#@#.banner\nx.org#?#p"

-- A page hides what is for its host and what is for all, unless an exception is for the host.
abbrev pub PagesOfASmallList : Type 0
PagesOfASmallList =
    (hidden (lines_of small_list) (codes "a.com") ≡ codes ".ad" ∷ codes ".banner" ∷ [])
    × (hidden (lines_of small_list) (codes "b.a.com") ≡ [])
    × (hidden (lines_of small_list) (codes "z.org") ≡ codes ".banner" ∷ [])

-- a list with each kind of line
abbrev pub mixed_list : List ℕ
mixed_list =
    codes "[Adblock Plus 2.0]\n! Title: t\na.com##.ad\n@@||a.com^$document\n"
    ++ codes "||ads.com^$third-party,domain=b.com|~c.b.com|d.c.b.com\n||pop.com^$popup\n/banner[0-9]+\\.gif/\n"

-- Lines that say nothing of elements hide nothing, and exceptions for a page do not speak of elements.
abbrev pub OtherLinesHideNothing : Type 0
OtherLinesHideNothing =
    (hidden (lines_of mixed_list) (codes "www.a.com") ≡ codes ".ad" ∷ [])
    × (hidden (lines_of mixed_list) (codes "b.com") ≡ [])
    × (hide_report (lines_of mixed_list) ≡ [])
    × (map hide_line_of (codes " \t\r" ∷ codes "!##a" ∷ codes "[Adblock]##a[b]" ∷ codes "a#b#c" ∷ codes "" ∷ []) ≡ other ∷ other ∷ other ∷ other ∷ other ∷ [])

-- Of the domains that cover the host the longest decides, whatever the order of the line. A domain covers no host that
-- only ends with its letters, and no address but its own.
abbrev pub LongestDomainDecides : Type 0
LongestDomainDecides =
    let lines = lines_of (codes "~b.a.com,a.com,c.b.a.com##x\n~a.com##y\n1.2##z") in
    (hidden lines (codes "a.com") ≡ codes "x" ∷ [])
    × (hidden lines (codes "b.a.com") ≡ [])
    × (hidden lines (codes "d.b.a.com") ≡ [])
    × (hidden lines (codes "d.c.b.a.com") ≡ codes "x" ∷ [])
    × (hidden lines (codes "ba.com") ≡ codes "y" ∷ [])
    × (hidden lines (codes "1.2") ≡ codes "y" ∷ codes "z" ∷ [])
    × (hidden lines (codes "0.1.2") ≡ codes "y" ∷ [])

-- An exception keeps a selector where it applies, on whatever line that is hidden, and nowhere else.
abbrev pub ExceptionsKeepWhereTheyApply : Type 0
ExceptionsKeepWhereTheyApply =
    let lines = lines_of (codes "~c.a.com,a.com#@#x\n#@#y\na.com##x\n##x\n##y\n##x y") in
    (hidden lines (codes "a.com") ≡ codes "x y" ∷ [])
    × (hidden lines (codes "c.a.com") ≡ codes "x" ∷ codes "x y" ∷ [])
    × (hidden lines (codes "b.com") ≡ codes "x" ∷ codes "x y" ∷ [])

-- Selectors ascend by their bytes, a shorter one before those that begin with it, and each stands once.
abbrev pub SelectorsAscendAndStandOnce : Type 0
SelectorsAscendAndStandOnce =
    hidden (lines_of (codes "##b\n##a.b\n##a\n##" ++ 195 ∷ 169 ∷ codes "\na.com##B\na.com##b\n##Z\n")) (codes "a.com")
    ≡ codes "B" ∷ codes "Z" ∷ codes "a" ∷ codes "a.b" ∷ codes "b" ∷ (195 ∷ 169 ∷ []) ∷ []

-- ---- lines

-- The leftmost separator splits a line, and spaces and tabs round the selector are cut off.
abbrev pub LeftmostSeparatorSplits : Type 0
LeftmostSeparatorSplits =
    map hide_line_of (codes "##a##b" ∷ codes "a.b#@#c##d" ∷ codes "###a" ∷ codes "a.b##c#?#d" ∷ codes "a.b#?#c##d" ∷ codes " \ta.b## \t c d \t\r" ∷ codes "#a##b" ∷ [])
    ≡ hides [] (codes "a##b") ∷ keeps (listed (codes "a.b") ∷ []) (codes "c##d") ∷ hides [] (codes "#a") ∷ hides (listed (codes "a.b") ∷ []) (codes "c#?#d")
    ∷ unsupported HideSyntax ∷ hides (listed (codes "a.b") ∷ []) (codes "c d") ∷ unsupported BadDomain ∷ []

-- Domains stand between commas and are read in lower case; nothing but a `~` may stand beside them.
abbrev pub DomainsStandBetweenCommas : Type 0
DomainsStandBetweenCommas =
    map hide_line_of (codes "A.com,~b.A.com##x" ∷ codes "[::1],a.com,a.com##x" ∷ codes "a.com, b.com##x" ∷ codes "a.com,##x" ∷ codes "~##x" ∷ codes "~~a.com##x" ∷ codes "a.com ##x" ∷ codes "a.*##x" ∷ [])
    ≡ hides (listed (codes "a.com") ∷ excluded (codes "b.a.com") ∷ []) (codes "x")
    ∷ hides (listed (codes "[::1]") ∷ listed (codes "a.com") ∷ listed (codes "a.com") ∷ []) (codes "x")
    ∷ unsupported BadDomain ∷ unsupported BadDomain ∷ unsupported BadDomain ∷ unsupported BadDomain ∷ unsupported BadDomain ∷ unsupported BadDomain ∷ []

-- Letters of domains have no case.
abbrev pub BothDomainsAreComparedInLowerCase : Type 0
BothDomainsAreComparedInLowerCase =
    map hide_line_of (codes "a.com,~A.com##x" ∷ codes "~a.com,b.org,A.COM#@#x" ∷ codes "a.com,~b.a.com##x" ∷ [])
    ≡ unsupported BothDomains ∷ unsupported BothDomains ∷ hides (listed (codes "a.com") ∷ excluded (codes "b.a.com") ∷ []) (codes "x") ∷ []

-- A line with more than 65,536 bytes has that reason, whatever it says.
abbrev pub LongLinesComeFirst : Type 0
LongLinesComeFirst = (bytes : List ℕ) → max_list_line < length bytes → hide_line_of bytes ≡ unsupported LineTooLong

-- Each reason comes before those behind it.
abbrev pub ReasonsComeInOrder : Type 0
ReasonsComeInOrder =
    map hide_line_of (
    (codes "a b,~A b,a b#?# " ++ 255 ∷ [])
    ∷ (codes "a b,~A b##" ++ 255 ∷ [])
    ∷ codes "a b,~A b,a b##"
    ∷ codes "a.b,~A.b## "
    ∷ codes "a.b,~A.b##x"
    ∷ [])
    ≡ unsupported HideSyntax ∷ unsupported NotUtf8 ∷ unsupported BadDomain ∷ unsupported EmptySelector ∷ unsupported BothDomains ∷ []

-- The lines with a reason are reported by their numbers, which count all lines.
abbrev pub ReportOfHidingLines : Type 0
ReportOfHidingLines =
    (hide_report (lines_of small_list) ≡ record { line = 4; reason = HideSyntax } ∷ [])
    × (hide_report (lines_of (codes "! c\n\na b##x\n##x\n||a.com^\na.com##\n"))
    ≡ record { line = 3; reason = BadDomain } ∷ record { line = 6; reason = EmptySelector } ∷ [])

-- A host of a page is labels of lower-case letters, digits, `-` and `_`.
abbrev pub HostsOfPages : Type 0
HostsOfPages =
    map is_page_host (codes "a.com" ∷ codes "a_-1.x" ∷ codes "1.2.3.4" ∷ codes "" ∷ codes "a." ∷ codes ".a" ∷ codes "a..b" ∷ codes "A.com" ∷ codes "[::1]" ∷ codes "a b" ∷ [])
    ≡ true ∷ true ∷ true ∷ false ∷ false ∷ false ∷ false ∷ false ∷ false ∷ false ∷ []
