-- The schemes of the URLs that the engine decides. URL Standard, 4.1: a scheme is lower-case ASCII.
use Rattle.std.specs.Prelude.{ℕ, List, [], ◌∷◌, codes, Option}
use Rattle.std.specs.List.{find}
use Rattle.std.specs.Str.{bytes_eq}
use Rattle.dnr_base.specs.declared.scheme.Scheme.{Scheme}
use Rattle.dnr_base.specs.declared.scheme.Scheme.TheVariants.{Http, Https, Ws, Wss, Ftp, ChromeExtension}

abbrev pub all_schemes : List Scheme
all_schemes = Http ∷ Https ∷ Ws ∷ Wss ∷ Ftp ∷ ChromeExtension ∷ []

abbrev pub scheme_text : Scheme → List ℕ
scheme_text Http = codes "http"
scheme_text Https = codes "https"
scheme_text Ws = codes "ws"
scheme_text Wss = codes "wss"
scheme_text Ftp = codes "ftp"
scheme_text ChromeExtension = codes "chrome-extension"

-- the scheme of a name
abbrev pub scheme_named : List ℕ → Option Scheme
scheme_named name = find (λ scheme. bytes_eq (scheme_text scheme) name) all_schemes
