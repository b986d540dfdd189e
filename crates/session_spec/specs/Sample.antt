-- A session that is made from a number: which rules, updates and requests are drawn, how they are answered one after
-- another, and the line that sums them up.
use Rattle.std.specs.Prelude.{◌≡◌, ℕ, zero, suc, ◌+◌, ◌/◌, ◌%◌, negsuc, List, [], ◌∷◌, ◌++◌, codes, decimal, true, ◌==◌, nat_lt, Some, None, Result, Ok, Err, if◌then◌else◌}
use Rattle.rand_pcg.specs.Lcg.{Lcg, started, increment_of}
use Rattle.rand_pcg.specs.Pcg.{multiplier_64, pcg32}
use Rattle.dnr_base.specs.declared.kind.Kind.TheVariants.{Script}
use Rattle.dnr_base.specs.declared.method.Method.TheVariants.{Get}
use Rattle.dnr_base.specs.declared.redirect.Redirect.TheVariants.{Url}
use Rattle.dnr_base.specs.declared.request.Request.{Request}
use Rattle.dnr_base.specs.Kind.{default_kinds}
use Rattle.dnr_base.specs.View.{View}
use Rattle.dnr_spec.specs.declared.view_refusal.ViewRefusal.{ViewRefusal}
use Rattle.dnr_spec.specs.UrlView.{view_of}
use Rattle.rule_spec.specs.declared.outcome.Outcome.{Outcome}
use Rattle.rule_spec.specs.declared.outcome.Outcome.TheVariants as outcome
use Rattle.rule_spec.specs.Rule.{Action, block, redirect, allow, Rule, plain_condition}
use Rattle.rule_spec.specs.Scan.{scan}
use Rattle.rule_spec.specs.State.{State}
use Rattle.update_spec.specs.Entries.{Entry, one, judge, opening}
use Rattle.update_spec.specs.Update.{NewExtension, dynamic}
use Rattle.session_spec.specs.declared.tally.Tally.{Tally}
use Rattle.session_spec.specs.InTurn.{left_by}
use Rattle.session_spec.specs.Words.{Sample}

-- ---- numbers

-- The generator is PCG XSH RR 64/32 (O'Neill, "PCG: A Family of Simple Fast Space-Efficient Statistically Good
-- Algorithms for Random Number Generation"), on this stream.
abbrev pub stream : ℕ
stream = 54

abbrev pub generator_of : ℕ → Lcg
generator_of seed = started 64 multiplier_64 seed (increment_of 64 stream)

-- a number below this one, and the generator after it
unfoldable pub draw : ℕ → Lcg → ℕ × Lcg
draw below generator = ((pcg32 generator).0 % below, (pcg32 generator).1)

-- ---- rules

-- how many hosts there are, by their numbers
abbrev pub hosts : ℕ
hosts = 1000

-- `||hN.example^`, where N is the number of a host
abbrev pub filter_text : ℕ → List ℕ
filter_text host = codes "||h" ++ (decimal host ++ codes ".example^")

-- `https://rN.example/`
abbrev pub target_text : ℕ → List ℕ
target_text host = codes "https://r" ++ (decimal host ++ codes ".example/")

-- half of the rules block, and the others allow or redirect
abbrev pub action_of : ℕ → ℕ → Action
action_of choice host =
    if nat_lt choice 2 then block
    else (if choice == 2 then allow else redirect (Url (target_text host)))

-- the rule of this id for a host, with this priority; it names no types
abbrev pub rule_of : ℕ → ℕ → ℕ → ℕ → Rule
rule_of id host priority choice = record {
  id = id;
  priority = priority;
  condition = record (plain_condition default_kinds) { url_filter = Some (filter_text host) };
  action = action_of choice host;
}

-- a host, then a priority from 1 to 4, then an action
unfoldable pub drawn_rule : ℕ → Lcg → Rule × Lcg
drawn_rule id generator =
    let host = draw hosts generator in
    let priority = draw 4 host.1 in
    let choice = draw 4 priority.1 in
    (rule_of id host.0 (1 + priority.0) choice.0, choice.1)

-- a rule behind others
abbrev pub with_rule : ℕ → List Rule × Lcg → List Rule × Lcg
with_rule id drawn = (drawn.0 ++ (drawn_rule id drawn.1).0 ∷ [], (drawn_rule id drawn.1).1)

-- the rules of the ids from 1 to this number
abbrev pub drawn_rules : ℕ → Lcg → List Rule × Lcg
drawn_rules zero generator = ([], generator)
drawn_rules (suc count) generator = with_rule (suc count) (drawn_rules count generator)

-- the extension of these rules
abbrev pub extension_of : List Rule → NewExtension
extension_of rules = record {
  name = codes "sample";
  sets = record { id = codes "s"; enabled = true; rules = rules; origins = [] } ∷ [];
  access = None;
}

-- ---- a session on its way

-- the generator, what is in force, and what was counted
pub record Progress : Type 0 where
  pub generator : Lcg
  pub state : State
  pub tally : Tally

-- ---- requests

-- `http://hN.example/pM`, where N is the number of a host and M that of a page
abbrev pub url_text : ℕ → ℕ → List ℕ
url_text host page = codes "http://h" ++ (decimal host ++ (codes ".example/p" ++ decimal page))

-- a host, then one of a hundred pages
unfoldable pub drawn_url : Lcg → List ℕ × Lcg
drawn_url generator =
    let host = draw hosts generator in
    let page = draw 100 host.1 in
    (url_text host.0 page.0, page.1)

-- the request of this number for a script, which says nothing else
abbrev pub request_to : ℕ → View → Request
request_to number view = record {
  line = number;
  view = view;
  initiator = None;
  kind = Script;
  method = Get;
  tab = negsuc 0;
  frames = [];
  request_headers = None;
  response_headers = None;
}

abbrev pub with_outcome : Outcome → Tally → Tally
with_outcome outcome.None tally = record tally { none = tally.none + 1 }
with_outcome outcome.Block tally = record tally { block = tally.block + 1 }
with_outcome outcome.Redirect tally = record tally { redirect = tally.redirect + 1 }
with_outcome outcome.Upgrade tally = record tally { upgrade = tally.upgrade + 1 }
with_outcome outcome.Allow tally = record tally { allow = tally.allow + 1 }

-- what is counted of the request to this URL; one to a text that is no URL would have no verdict
abbrev pub with_answer : State → Result View ViewRefusal → Tally → Tally
with_answer state (Ok view) tally = with_outcome (scan [] state (request_to tally.requests view)).outcome tally
with_answer state (Err why) tally = tally

abbrev pub with_request : Tally → Tally
with_request tally = record tally { requests = tally.requests + 1 }

-- one request more; there are no suffix rules
unfoldable pub asked : Progress → Progress
asked now = record now {
  generator = (drawn_url now.generator).1;
  tally = with_answer now.state (view_of (drawn_url now.generator).0) (with_request now.tally);
}

abbrev pub asked_times : ℕ → Progress → Progress
asked_times zero now = now
asked_times (suc count) now = asked (asked_times count now)

-- ---- updates

-- a dynamic rule more
abbrev pub adds : Rule → Entry
adds rule = one (dynamic (codes "sample") [] (rule ∷ []))

-- the dynamic rule of this id is drawn and added
unfoldable pub updated : ℕ → Progress → Progress
updated id now =
    let entry = adds (drawn_rule id now.generator).0 in
    record now { generator = (drawn_rule id now.generator).1; state = left_by now.state entry (judge now.state entry) }

-- ---- the session

-- The updates part the requests into rounds, which are dealt out to them in turn: so many are in the round of this
-- number, from 0.
abbrev pub asked_in : Sample → ℕ → ℕ
asked_in sample round =
    sample.requests / (sample.updates + 1) + (if nat_lt round (sample.requests % (sample.updates + 1)) then 1 else 0)

-- the rounds up to the one of this number, each but the first behind its update
abbrev pub rounds_to : Sample → ℕ → Progress → Progress
rounds_to sample zero now = asked_times (asked_in sample 0) now
rounds_to sample (suc round) now = asked_times (asked_in sample (suc round)) (updated (suc round) (rounds_to sample round now))

abbrev pub nothing_asked : Tally
nothing_asked = record { requests = 0; none = 0; block = 0; allow = 0; redirect = 0; upgrade = 0 }

-- the end of the session that begins in this state
abbrev pub end_from : Sample → State → Lcg → Progress
end_from sample state generator =
    rounds_to sample sample.updates (record { generator = generator; state = state; tally = nothing_asked })

-- ---- its summary

-- the counts, and how many updates were accepted
abbrev pub summary_line : Tally → ℕ → List ℕ
summary_line tally count =
    codes "{\"requests\":" ++ (decimal tally.requests ++ (codes ",\"none\":" ++ (decimal tally.none
    ++ (codes ",\"block\":" ++ (decimal tally.block ++ (codes ",\"allow\":" ++ (decimal tally.allow
    ++ (codes ",\"redirect\":" ++ (decimal tally.redirect ++ (codes ",\"upgrade\":" ++ (decimal tally.upgrade
    ++ (codes ",\"generation\":" ++ (decimal count ++ codes "}\n")))))))))))))

-- the rules were drawn and installed, and the session came to this end
pub record EndsAt (sample : Sample) (last : Progress) : Type 0 where
  pub first : State
  pub installed : opening (extension_of (drawn_rules sample.rules (generator_of sample.seed)).0 ∷ []) ≡ Ok first
  pub same : last ≡ end_from sample first (drawn_rules sample.rules (generator_of sample.seed)).1

-- the session was held, and this sums it up
pub record IsSampled (sample : Sample) (written : List ℕ) : Type 0 where
  pub last : Progress
  pub ends : EndsAt sample last
  pub output : written ≡ summary_line last.tally last.state.count
