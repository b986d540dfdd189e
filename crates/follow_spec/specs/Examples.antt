-- Examples of traces, computed from the definitions alone.
use Rattle.std.specs.Prelude.{◌≡◌, ℕ, zero, suc, ◌+◌, ◌-◌, ◌==◌, List, [], ◌∷◌, ◌++◌, codes, decimal, length, map, None, if◌then◌else◌}
use Rattle.rule_spec.specs.declared.outcome.Outcome.{Outcome}
use Rattle.rule_spec.specs.declared.outcome.Outcome.TheVariants as outcome
use Rattle.rule_spec.specs.Examples.{extension_of, redirect_to, request_to, rule_of, state_of}
use Rattle.rule_spec.specs.Rule.{Rule, upgrade_scheme}
use Rattle.rule_spec.specs.State.{State}
use Rattle.follow_spec.specs.declared.end.End.{End}
use Rattle.follow_spec.specs.declared.end.End.TheVariants.{Settled, Unreadable, Repeated, Bound}
use Rattle.follow_spec.specs.Trace.{Hop, Trace, trace}

abbrev state_with : List Rule → State
state_with rules = state_of (extension_of (codes "a") rules ∷ [])

-- the request for `http://a.com/` under these rules
abbrev trace_of : List Rule → Trace
trace_of rules = trace [] (state_with rules) (request_to (codes "a.com") [] None)

-- a hop by its URL and what becomes of it
pub record Told : Type 0 where
  pub url : List ℕ
  pub outcome : Outcome

abbrev told : Hop → Told
told hop = record { url = hop.url; outcome = hop.verdict.outcome }

abbrev at : List ℕ → Outcome → Told
at url outcome = record { url = url; outcome = outcome }

-- the hops are these, and the trace ends so
abbrev Leads : List Rule → List Told → End → Type 0
Leads rules hops end = (map told (trace_of rules).hops ≡ hops) × ((trace_of rules).end ≡ end)

-- Each redirect is followed, until no rule redirects.
abbrev pub TracesFollowRedirects : Type 0
TracesFollowRedirects =
    Leads (rule_of 1 1 (codes "||a.com^") (redirect_to (codes "https://b.com/")) ∷ rule_of 2 1 (codes "||b.com^") (redirect_to (codes "https://c.com/")) ∷ [])
    (at (codes "http://a.com/") outcome.Redirect ∷ at (codes "https://b.com/") outcome.Redirect ∷ at (codes "https://c.com/") outcome.None ∷ []) Settled

-- An upgrade is followed as a redirect is.
abbrev pub UpgradesAreFollowed : Type 0
UpgradesAreFollowed =
    Leads (rule_of 1 1 (codes "|http:") upgrade_scheme ∷ rule_of 2 1 (codes "|https:") (redirect_to (codes "http://a.com/")) ∷ [])
    (at (codes "http://a.com/") outcome.Upgrade ∷ at (codes "https://a.com/") outcome.Redirect ∷ []) Repeated

-- A redirect back to any hop ends the trace.
abbrev pub LoopsEndWhereTheyClose : Type 0
LoopsEndWhereTheyClose =
    Leads (rule_of 1 1 (codes "||a.com^") (redirect_to (codes "https://b.com/")) ∷ rule_of 2 1 (codes "||b.com^") (redirect_to (codes "http://a.com/")) ∷ [])
    (at (codes "http://a.com/") outcome.Redirect ∷ at (codes "https://b.com/") outcome.Redirect ∷ []) Repeated
    × Leads (rule_of 1 1 (codes "||a.com^") (redirect_to (codes "https://b.com/")) ∷ rule_of 2 1 (codes "||b.com^") (redirect_to (codes "https://c.com/"))
    ∷ rule_of 3 1 (codes "||c.com^") (redirect_to (codes "https://b.com/")) ∷ [])
    (at (codes "http://a.com/") outcome.Redirect ∷ at (codes "https://b.com/") outcome.Redirect ∷ at (codes "https://c.com/") outcome.Redirect ∷ []) Repeated

-- A redirect to what is no URL of a view ends the trace.
abbrev pub BadTargetsEndATrace : Type 0
BadTargetsEndATrace =
    Leads (rule_of 1 1 (codes "||a.com^") (redirect_to (codes "data:x")) ∷ []) (at (codes "http://a.com/") outcome.Redirect ∷ []) Unreadable

-- the rules that send `http://a.com/` to `/1`, `/1` to `/2`, and so on
abbrev pub step_rules : ℕ → ℕ → List Rule
step_rules next zero = []
step_rules next (suc more) =
    rule_of next 1 (if next == 1 then codes "|http://a.com/|" else codes "|http://a.com/" ++ decimal (next - 1) ++ codes "|") (redirect_to (codes "http://a.com/" ++ decimal next))
    ∷ step_rules (next + 1) more

-- No more than 20 hops are followed.
abbrev pub TracesAreBounded : Type 0
TracesAreBounded =
    (length (trace_of (step_rules 1 19)).hops ≡ 20) × ((trace_of (step_rules 1 19)).end ≡ Settled)
    × (length (trace_of (step_rules 1 20)).hops ≡ 20) × ((trace_of (step_rules 1 20)).end ≡ Bound)
