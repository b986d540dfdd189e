-- Where redirects and upgrades lead. 92 is a backslash.
use Rattle.std.specs.Prelude.{◌≡◌, ℕ, List, [], ◌∷◌, ◌++◌, length, codes, false, true, Bool, Option, Some, None, Ok, Err}
use Rattle.dnr_base.specs.declared.query_pair.QueryPair.{QueryPair}
use Rattle.dnr_base.specs.declared.scheme.Scheme.{Scheme}
use Rattle.dnr_base.specs.declared.scheme.Scheme.TheVariants.{Http, Https, Ws, Ftp}
use Rattle.dnr_base.specs.declared.span.Span.{Span}
use Rattle.dnr_base.specs.View.{View}
use Rattle.dnr_spec.specs.Substitution.{byte, group, substitution_of, expansion}
use Rattle.dnr_spec.specs.declared.substitution_refusal.SubstitutionRefusal.TheVariants.{BadSubstitution}
use Rattle.dnr_spec.specs.Target.{substituted_text, upgraded_of}
use Rattle.dnr_spec.specs.Transform.{changed_query}

-- ---- substitutions

abbrev pub place : ℕ → ℕ → Option Span
place start end = Some (record { start = start; end = end })

-- Of `abcd`, where group 1 is `b` and group 2 took no part, `\1-\2\0\\` stands for `b-abcd\`.
abbrev pub GroupsArePutIn : Type 0
GroupsArePutIn =
    (substitution_of (92 ∷ 49 ∷ 45 ∷ 92 ∷ 50 ∷ 92 ∷ 48 ∷ 92 ∷ 92 ∷ []) 2 ≡ Ok (group 1 ∷ byte 45 ∷ group 2 ∷ group 0 ∷ byte 92 ∷ []))
    × (expansion (group 1 ∷ byte 45 ∷ group 2 ∷ group 0 ∷ byte 92 ∷ []) (codes "abcd") (place 0 4 ∷ place 1 2 ∷ None ∷ []) ≡ codes "b-abcd" ++ 92 ∷ [])

-- `\a`, `a\`, and `\2` beside a pattern with one group.
abbrev pub OtherBackslashesAreRefused : Type 0
OtherBackslashesAreRefused =
    (substitution_of (92 ∷ 97 ∷ []) 9 ≡ Err BadSubstitution)
    × (substitution_of (97 ∷ 92 ∷ []) 9 ≡ Err BadSubstitution)
    × (substitution_of (92 ∷ 50 ∷ []) 1 ≡ Err BadSubstitution)

-- In `http://a.com/x/y`, whose first match is `/x`, `/z` stands in its place.
abbrev pub FirstMatchGivesWay : Type 0
FirstMatchGivesWay = substituted_text (codes "/z") (codes "http://a.com/x/y") (place 12 14 ∷ []) ≡ Some (codes "http://a.com/z/y")

-- ---- queries

abbrev pub pair : List ℕ → List ℕ → Bool → QueryPair
pair key value replace_only = record { key = key; value = value; replace_only = replace_only }

-- Keys are compared decoded, a piece without `=` is a key, and a query without pieces has no `?`.
abbrev pub KeysAreRemoved : Type 0
KeysAreRemoved =
    (changed_query (record { remove = codes "a" ∷ []; add = [] }) (codes "a=1&b=2&&%61=3&a") ≡ codes "?b=2")
    × (changed_query (record { remove = codes "a" ∷ []; add = [] }) (codes "a=1") ≡ [])

-- The second `k` stays where there is one pair of it; a pair with a new key comes last, in the form's code, and one
-- that only replaces does not come.
abbrev pub PairsReplaceInTurn : Type 0
PairsReplaceInTurn =
    (changed_query (record { remove = []; add = pair (codes "k") (codes "9") false ∷ pair (codes "n") (codes "x y") false ∷ [] }) (codes "k=1&k=2")
    ≡ codes "?k=9&k=2&n=x+y")
    × (changed_query (record { remove = []; add = pair (codes "n") (codes "1") true ∷ [] }) (codes "k=1") ≡ codes "?k=1")

-- ---- upgrades

-- a URL of this text, with this scheme and a host at this place
abbrev pub view : List ℕ → Scheme → ℕ → ℕ → View
view text scheme start end = record { full = text; cut = length text; scheme = scheme; host = record { start = start; end = end } }

-- A port that is written stays, and so do the path and the query.
abbrev pub UpgradesKeepThePort : Type 0
UpgradesKeepThePort =
    (upgraded_of (view (codes "http://a.com:8080/x?y") Http 7 12) ≡ Some (codes "https://a.com:8080/x?y"))
    × (upgraded_of (view (codes "ftp://a.com/") Ftp 6 11) ≡ Some (codes "https://a.com/"))
    × (upgraded_of (view (codes "ws://a.com/") Ws 5 10) ≡ None)
    × (upgraded_of (view (codes "https://a.com/") Https 8 13) ≡ None)
