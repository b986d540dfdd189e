-- The lines that answer a script, as bytes. Texts are written as `serde_json` writes them.
use Rattle.std.specs.Prelude.{ℕ, List, [], ◌∷◌, ◌++◌, codes, decimal, map, Option, Some, None}
use Rattle.json.specs.Print.{quoted}
use Rattle.dnr_base.specs.declared.direction.Direction.{Direction}
use Rattle.dnr_base.specs.declared.direction.Direction.TheVariants as direction
use Rattle.dnr_base.specs.declared.header.Header.{Header}
use Rattle.dnr_base.specs.declared.operation.Operation.{Operation}
use Rattle.dnr_base.specs.declared.operation.Operation.TheVariants.{Append, Set, Remove}
use Rattle.dnr_base.specs.declared.rule_name.RuleName.{RuleName}
use Rattle.dnr_base.specs.declared.verb.Verb.{Verb}
use Rattle.dnr_base.specs.declared.verb.Verb.TheVariants as verb
use Rattle.dnr_spec.specs.declared.view_refusal.ViewRefusal.{ViewRefusal}
use Rattle.dnr_spec.specs.declared.view_refusal.ViewRefusal.TheVariants as view
use Rattle.rule_spec.specs.declared.outcome.Outcome.{Outcome}
use Rattle.rule_spec.specs.declared.outcome.Outcome.TheVariants as outcome
use Rattle.rule_spec.specs.declared.placed_refusal.PlacedRefusal.{PlacedRefusal}
use Rattle.rule_spec.specs.Scan.{NamedOp, Verdict}
use Rattle.explain_spec.specs.Explanation.{WhyRule, Why, Explanation}
use Rattle.follow_spec.specs.declared.end.End.{End}
use Rattle.follow_spec.specs.declared.end.End.TheVariants.{Settled, Unreadable, Repeated, Bound}
use Rattle.follow_spec.specs.Trace.{Hop, Trace}
use Rattle.update_spec.specs.declared.refusal.Refusal.{Refusal}
use Rattle.line_spec.specs.declared.command_path.CommandPath.{CommandPath}
use Rattle.line_spec.specs.declared.line_fault.LineFault.{LineFault}
use Rattle.line_spec.specs.declared.line_fault.LineFault.TheVariants as fault
use Rattle.line_spec.specs.CommandPath.{path_name}
use Rattle.session_spec.specs.declared.reply.Reply.{Reply}
use Rattle.session_spec.specs.declared.reply.Reply.TheVariants as reply
use Rattle.session_spec.specs.Refusals.{no_memory, code_text, rule_fields, update_fields}

-- ---- lists

-- each text behind a comma
abbrev pub behind_commas : List (List ℕ) → List ℕ
behind_commas [] = []
behind_commas (text ∷ texts) = codes "," ++ (text ++ behind_commas texts)

-- texts with a comma between each two
abbrev pub between_commas : List (List ℕ) → List ℕ
between_commas [] = []
between_commas (text ∷ texts) = text ++ behind_commas texts

abbrev pub list_text : List (List ℕ) → List ℕ
list_text texts = codes "[" ++ (between_commas texts ++ codes "]")

-- ---- the parts of a verdict

abbrev pub outcome_name : Outcome → List ℕ
outcome_name outcome.None = codes "none"
outcome_name outcome.Block = codes "block"
outcome_name outcome.Redirect = codes "redirect"
outcome_name outcome.Upgrade = codes "upgrade"
outcome_name outcome.Allow = codes "allow"

abbrev pub outcome_field : Outcome → List ℕ
outcome_field outcome = codes ",\"verdict\":\"" ++ (outcome_name outcome ++ codes "\"")

-- `[EXTENSION,SET,ID]`
abbrev pub rule_text : RuleName → List ℕ
rule_text rule = codes "[" ++ (quoted rule.ext ++ (codes "," ++ (quoted rule.set ++ (codes "," ++ (decimal rule.id ++ codes "]")))))

abbrev pub rule_field : Option RuleName → List ℕ
rule_field None = []
rule_field (Some rule) = codes ",\"rule\":" ++ rule_text rule

abbrev pub url_field : Option (List ℕ) → List ℕ
url_field None = []
url_field (Some url) = codes ",\"url\":" ++ quoted url

abbrev pub direction_name : Direction → List ℕ
direction_name direction.Request = codes "request"
direction_name direction.Response = codes "response"

abbrev pub operation_name : Operation → List ℕ
operation_name Append = codes "append"
operation_name Set = codes "set"
operation_name Remove = codes "remove"

-- a text, or null where there is none
abbrev pub text_or_null : Option (List ℕ) → List ℕ
text_or_null None = codes "null"
text_or_null (Some text) = quoted text

-- how an operation begins: whose header it changes, and what it does
abbrev pub change_text : Direction → Operation → List ℕ
change_text direction operation = codes "[\"" ++ (direction_name direction ++ (codes "\",\"" ++ (operation_name operation ++ codes "\",")))

-- `[DIRECTION,OPERATION,NAME,VALUE,RULE]`
abbrev pub op_text : NamedOp → List ℕ
op_text op =
    change_text op.direction op.op.operation ++ (quoted op.op.name ++ (codes "," ++ (text_or_null op.op.value ++ (codes "," ++ (rule_text op.rule ++ codes "]")))))

-- the operations that took effect, where there are any
abbrev pub ops_field : List NamedOp → List ℕ
ops_field [] = []
ops_field (op ∷ ops) = codes ",\"ops\":" ++ list_text (map op_text (op ∷ ops))

-- `[NAME,VALUE]`
abbrev pub header_text : Header → List ℕ
header_text header = codes "[" ++ (quoted header.name ++ (codes "," ++ (quoted header.value ++ codes "]")))

abbrev pub headers_field : List ℕ → Option (List Header) → List ℕ
headers_field key None = []
headers_field key (Some headers) = codes ",\"" ++ (key ++ (codes "\":" ++ list_text (map header_text headers)))

-- ---- lines

-- how the answer to a request line of this number begins
abbrev pub answer_start : ℕ → ℕ → List ℕ
answer_start line generation = codes "{\"line\":" ++ (decimal line ++ (codes ",\"generation\":" ++ decimal generation))

abbrev pub verdict_fields : Verdict → List ℕ
verdict_fields verdict =
    outcome_field verdict.outcome ++ (rule_field verdict.rule ++ (url_field verdict.target
    ++ (ops_field verdict.ops ++ (headers_field (codes "requestHeaders") verdict.request_headers
    ++ headers_field (codes "responseHeaders") verdict.response_headers))))

-- what a request line of this number prints
abbrev pub verdict_line : ℕ → ℕ → Verdict → List ℕ
verdict_line line generation verdict = answer_start line generation ++ (verdict_fields verdict ++ codes "}\n")

-- what it prints where a pattern host failed at this rule
abbrev pub fault_line : ℕ → ℕ → RuleName → List ℕ
fault_line line generation rule = answer_start line generation ++ (codes ",\"fault\":\"pattern-host\",\"rule\":" ++ (rule_text rule ++ codes "}\n"))

-- ---- explanations

-- an action by its name in a rule
abbrev pub verb_name : Verb → List ℕ
verb_name verb.Allow = codes "allow"
verb_name verb.AllowAllRequests = codes "allowAllRequests"
verb_name verb.Block = codes "block"
verb_name verb.UpgradeScheme = codes "upgradeScheme"
verb_name verb.Redirect = codes "redirect"

-- the frame by which alone the rule reaches the request, if it does so
abbrev pub frame_field : Option ℕ → List ℕ
frame_field None = []
frame_field (Some place) = codes ",\"frame\":" ++ decimal place

-- the lines of a filter list that the rule comes from, if it comes from one
abbrev pub lines_field : List ℕ → List ℕ
lines_field [] = []
lines_field (line ∷ lines) = codes ",\"lines\":" ++ list_text (map decimal (line ∷ lines))

abbrev pub why_rule_text : WhyRule → List ℕ
why_rule_text why =
    rule_text why.rule ++ (codes ",\"action\":\"" ++ (verb_name why.verb ++ (codes "\",\"priority\":" ++ (decimal why.priority
    ++ (frame_field why.frame ++ lines_field why.lines)))))

-- the rule that decides inside an extension, or null where none does
abbrev pub winner_text : Option WhyRule → List ℕ
winner_text None = codes "null"
winner_text (Some why) = why_rule_text why

-- what one extension says
abbrev pub why_text : Why → List ℕ
why_text why = codes "{\"extension\":" ++ (quoted why.ext ++ (codes ",\"rule\":" ++ (winner_text why.winner ++ codes "}")))

-- what an explain line of this number prints: the verdict, and what each extension says
abbrev pub explain_line : ℕ → ℕ → Explanation → List ℕ
explain_line line generation explanation =
    answer_start line generation ++ (verdict_fields explanation.verdict
    ++ (codes ",\"why\":" ++ (list_text (map why_text explanation.why) ++ codes "}\n")))

-- ---- traces

abbrev pub end_name : End → List ℕ
end_name Settled = codes "settled"
end_name Unreadable = codes "unreadable"
end_name Repeated = codes "repeated"
end_name Bound = codes "bound"

-- what becomes of one hop, by which rule
abbrev pub hop_text : Hop → List ℕ
hop_text hop = codes "{\"url\":" ++ (quoted hop.url ++ (outcome_field hop.verdict.outcome ++ (rule_field hop.verdict.rule ++ codes "}")))

-- how the answer to a line begins that is followed
abbrev pub trace_start : ℕ → List ℕ
trace_start line = codes "{\"line\":" ++ (decimal line ++ codes ",\"hops\":")

abbrev pub end_field : End → List ℕ
end_field end = codes ",\"end\":\"" ++ (end_name end ++ codes "\"}\n")

-- what a request line of this number prints that is followed
abbrev pub trace_line : ℕ → Trace → List ℕ
trace_line line trace = trace_start line ++ (list_text (map hop_text trace.hops) ++ end_field trace.end)

-- what it prints where a pattern host failed at this rule, at the hop of this place
abbrev pub hop_fault_line : ℕ → ℕ → RuleName → List ℕ
hop_fault_line line hop rule =
    codes "{\"line\":" ++ (decimal line ++ (codes ",\"fault\":\"pattern-host\",\"hop\":" ++ (decimal hop
    ++ (codes ",\"rule\":" ++ (rule_text rule ++ codes "}\n")))))

-- ---- updates

-- a line that says one count under this key
abbrev pub counted_line : ℕ → List ℕ → ℕ → List ℕ
counted_line line key count = codes "{\"line\":" ++ (decimal line ++ (key ++ (decimal count ++ codes "}\n")))

-- what an accepted update prints, with the count after it
abbrev pub accepted_line : ℕ → ℕ → List ℕ
accepted_line line count = counted_line line (codes ",\"accepted\":") count

-- what a `sync` line prints, with the count of the updates before it
abbrev pub sync_line : ℕ → ℕ → List ℕ
sync_line line count = counted_line line (codes ",\"sync\":") count

-- how the answer to a line begins that is refused
abbrev pub refused_start : ℕ → List ℕ
refused_start line = codes "{\"line\":" ++ (decimal line ++ codes ",\"refused\":")

-- what a refused line prints, with these fields
abbrev pub refused_with : ℕ → List ℕ → List ℕ
refused_with line fields = refused_start line ++ (fields ++ codes "}\n")

-- an update that is refused
abbrev pub refused_line : ℕ → Refusal → List ℕ
refused_line line refusal = refused_with line (update_fields refusal)

-- an update of which a rule can't be read
abbrev pub refused_rule_line : ℕ → PlacedRefusal → List ℕ
refused_rule_line line refusal = refused_with line (rule_fields refusal)

-- the place of an update in its batch, from 0
abbrev pub place_field : ℕ → List ℕ
place_field place = codes ",\"update\":" ++ decimal place

-- a batch of which this update is refused
abbrev pub refused_batch_line : ℕ → ℕ → Refusal → List ℕ
refused_batch_line line place refusal = refused_with line (update_fields refusal ++ place_field place)

-- a batch of which a rule of this update can't be read
abbrev pub refused_batch_rule_line : ℕ → ℕ → PlacedRefusal → List ℕ
refused_batch_rule_line line place refusal = refused_with line (rule_fields refusal ++ place_field place)

-- ---- lines that can't be read

abbrev pub view_why : ViewRefusal → List ℕ
view_why view.UrlTooLong = codes "url-too-long"
view_why view.BadUrl = codes "bad-url"
view_why view.BadScheme = codes "bad-scheme"
view_why view.BadHost = codes "bad-host"
view_why view.NoMemory = no_memory

-- how the answer to a line begins that can't be read
abbrev pub bad_start : ℕ → List ℕ
bad_start line = codes "{\"line\":" ++ (decimal line ++ codes ",\"bad\":")

-- what a bad line prints, with these fields
abbrev pub bad_with : ℕ → List ℕ → List ℕ
bad_with line fields = bad_start line ++ (fields ++ codes "}\n")

-- the field that is at fault
abbrev pub command_fields : CommandPath → List ℕ
command_fields field = codes "\"command\",\"path\":\"" ++ (path_name field ++ codes "\"")

-- the field whose text is no URL, and why
abbrev pub url_fields : CommandPath → ViewRefusal → List ℕ
url_fields field refusal =
    codes "\"url\",\"path\":\"" ++ (path_name field ++ (codes "\",\"why\":\"" ++ (view_why refusal ++ codes "\"")))

-- why a line can't be read; one of which a rule can't be read is a refused one
abbrev pub bad_line : ℕ → LineFault → List ℕ
bad_line line fault.BadJson = bad_with line (codes "\"json\"")
bad_line line (fault.BadCommand field) = bad_with line (command_fields field)
bad_line line (fault.BadUrl field refusal) = bad_with line (url_fields field refusal)
bad_line line (fault.RuleRefused refusal) = refused_rule_line line refusal
bad_line line (fault.InBatch place refusal) = refused_batch_rule_line line place refusal
bad_line line fault.NoMemory = bad_with line (code_text no_memory)

-- ---- replies

-- what a line prints that asks for no verdict, or has none
abbrev pub reply_line : ℕ → Reply → List ℕ
reply_line line (reply.Accepted count) = accepted_line line count
reply_line line (reply.Sync count) = sync_line line count
reply_line line (reply.Refused refusal) = refused_line line refusal
reply_line line (reply.RuleRefused refusal) = refused_rule_line line refusal
reply_line line (reply.BatchRefused place refusal) = refused_batch_line line place refusal
reply_line line (reply.BatchRule place refusal) = refused_batch_rule_line line place refusal
reply_line line (reply.Bad fault) = bad_line line fault
reply_line line (reply.Fault generation rule) = fault_line line generation rule
