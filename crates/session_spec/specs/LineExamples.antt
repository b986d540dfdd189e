-- Examples of words and of the lines of output, each computed from the definitions alone.
use Rattle.std.specs.Prelude.{◌≡◌, ℕ, List, [], ◌∷◌, codes, pos, negsuc, Option, Some, None}
use Rattle.dnr_base.specs.declared.rule_name.RuleName.{RuleName}
use Rattle.dnr_base.specs.declared.verb.Verb.TheVariants as verb
use Rattle.dnr_spec.specs.declared.view_refusal.ViewRefusal.TheVariants as view
use Rattle.rule_spec.specs.declared.outcome.Outcome.TheVariants as outcome
use Rattle.rule_spec.specs.declared.placed_refusal.PlacedRefusal.{PlacedRefusal}
use Rattle.rule_spec.specs.declared.rule_refusal.RuleRefusal.{RuleRefusal}
use Rattle.rule_spec.specs.declared.rule_refusal.RuleRefusal.TheVariants as rule
use Rattle.rule_spec.specs.declared.rule_path.RulePath.TheVariants as field
use Rattle.rule_spec.specs.Scan.{plain_verdict}
use Rattle.explain_spec.specs.Explanation.{Why, WhyRule, Explanation}
use Rattle.update_spec.specs.declared.refusal.Refusal.TheVariants as update
use Rattle.line_spec.specs.declared.command_path.CommandPath.TheVariants as path
use Rattle.line_spec.specs.declared.line_fault.LineFault.TheVariants as fault
use Rattle.session_spec.specs.Words.{Sample, Task, serve_script, sample_of, task_of}
use Rattle.session_spec.specs.Output.{accepted_line, sync_line, refused_line, refused_rule_line, refused_batch_line, refused_batch_rule_line, bad_line, fault_line, explain_line}

-- ---- words

abbrev pub served_by : ℕ → Option Task
served_by workers = Some (serve_script (record { workers = workers; suffixes = None; installed = []; script = codes "s" }))

abbrev pub with_workers : List ℕ → Option Task
with_workers count = task_of (codes "serve" ∷ codes "--workers" ∷ count ∷ codes "s" ∷ [])

-- One to eight answer requests, and one where no number is named.
abbrev pub WorkersAreFew : Type 0
WorkersAreFew =
    (task_of (codes "serve" ∷ codes "s" ∷ []) ≡ served_by 1)
    × (with_workers (codes "8") ≡ served_by 8)
    × (with_workers (codes "0") ≡ None)
    × (with_workers (codes "9") ≡ None)
    × (with_workers (codes "01") ≡ None)
    × (with_workers (codes "+1") ≡ None)
    × (with_workers [] ≡ None)
    × (task_of (codes "serve" ∷ codes "--workers" ∷ codes "1" ∷ codes "--workers" ∷ codes "1" ∷ codes "s" ∷ []) ≡ None)

abbrev pub sample_with : ℕ → ℕ → ℕ → ℕ → Option Sample
sample_with seed rules requests updates = Some (record { seed = seed; rules = rules; requests = requests; updates = updates })

-- A sample has four numbers, each up to its limit.
abbrev pub SamplesHaveLimits : Type 0
SamplesHaveLimits =
    (sample_of (codes "18446744073709551615" ∷ codes "30000" ∷ codes "100000" ∷ codes "1000" ∷ []) ≡ sample_with 18446744073709551615 30000 100000 1000)
    × (sample_of (codes "0" ∷ codes "0" ∷ codes "0" ∷ codes "0" ∷ []) ≡ sample_with 0 0 0 0)
    × (sample_of (codes "18446744073709551616" ∷ codes "0" ∷ codes "0" ∷ codes "0" ∷ []) ≡ None)
    × (sample_of (codes "7" ∷ codes "30001" ∷ codes "0" ∷ codes "0" ∷ []) ≡ None)
    × (sample_of (codes "7" ∷ codes "0" ∷ codes "100001" ∷ codes "0" ∷ []) ≡ None)
    × (sample_of (codes "7" ∷ codes "0" ∷ codes "0" ∷ codes "1001" ∷ []) ≡ None)
    × (sample_of (codes "07" ∷ codes "0" ∷ codes "0" ∷ codes "0" ∷ []) ≡ None)
    × (sample_of (codes "7" ∷ codes "0" ∷ codes "0" ∷ []) ≡ None)

-- ---- updates

-- An update that is accepted, and a `sync`, say how many were accepted.
abbrev pub CountsAreSaid : Type 0
CountsAreSaid =
    (accepted_line 1 1 ≡ codes "{\"line\":1,\"accepted\":1}\n") × (sync_line 4 0 ≡ codes "{\"line\":4,\"sync\":0}\n")

-- A refused update names what it asks for in vain, or the count that is too great. An id is any whole number.
abbrev pub RefusedUpdatesSayWhy : Type 0
RefusedUpdatesSayWhy =
    (refused_line 1 (update.NoExtension (codes "q")) ≡ codes "{\"line\":1,\"refused\":\"no-extension\",\"extension\":\"q\"}\n")
    × (refused_line 2 (update.NoRuleset (codes "t\"")) ≡ codes "{\"line\":2,\"refused\":\"no-ruleset\",\"ruleset\":\"t\\\"\"}\n")
    × (refused_line 3 (update.NoStaticRule (pos 9)) ≡ codes "{\"line\":3,\"refused\":\"no-static-rule\",\"id\":9}\n")
    × (refused_line 4 (update.NoStaticRule (negsuc 4)) ≡ codes "{\"line\":4,\"refused\":\"no-static-rule\",\"id\":-5}\n")
    × (refused_line 5 (update.BothLists (pos 1)) ≡ codes "{\"line\":5,\"refused\":\"both-lists\",\"id\":1}\n")
    × (refused_line 6 (update.ExtensionThere (codes "a")) ≡ codes "{\"line\":6,\"refused\":\"extension-there\",\"extension\":\"a\"}\n")
    × (refused_line 7 (update.DynamicLimit 30001) ≡ codes "{\"line\":7,\"refused\":\"dynamic-limit\",\"count\":30001}\n")

abbrev pub refused_at : ℕ → Option ℕ → RuleRefusal → Option (List ℕ) → PlacedRefusal
refused_at place id cause set = record { place = place; id = id; cause = cause; set = set }

-- A refused rule has its place and its id, and the ruleset where several are read.
abbrev pub RefusedRulesSayWhere : Type 0
RefusedRulesSayWhere =
    (refused_rule_line 3 (refused_at 1 (Some 7) rule.DuplicateId None) ≡ codes "{\"line\":3,\"refused\":\"duplicate-id\",\"place\":1,\"id\":7}\n")
    × (refused_rule_line 1 (refused_at 0 (Some 2) (rule.BadField field.Condition) (Some (codes "s")))
    ≡ codes "{\"line\":1,\"refused\":\"bad-field\",\"place\":0,\"id\":2,\"path\":\"condition\",\"ruleset\":\"s\"}\n")

-- A batch has the place of its update at the end.
abbrev pub RefusedBatchesSayWhich : Type 0
RefusedBatchesSayWhich =
    (refused_batch_line 1 1 (update.DuplicateId 1) ≡ codes "{\"line\":1,\"refused\":\"duplicate-id\",\"id\":1,\"update\":1}\n")
    × (refused_batch_rule_line 1 2 (refused_at 0 None rule.BadId (Some (codes "s")))
    ≡ codes "{\"line\":1,\"refused\":\"bad-id\",\"place\":0,\"id\":null,\"ruleset\":\"s\",\"update\":2}\n")

-- ---- requests

-- A line that can't be read names its field, and why its text is no URL. One of which a rule can't be read is refused.
abbrev pub BadLinesSayWhy : Type 0
BadLinesSayWhy =
    (bad_line 1 fault.BadJson ≡ codes "{\"line\":1,\"bad\":\"json\"}\n")
    × (bad_line 2 (fault.BadUrl path.Url view.BadHost) ≡ codes "{\"line\":2,\"bad\":\"url\",\"path\":\"url\",\"why\":\"bad-host\"}\n")
    × (bad_line 4 (fault.BadCommand path.Kind) ≡ codes "{\"line\":4,\"bad\":\"command\",\"path\":\"type\"}\n")
    × (bad_line 5 (fault.BadCommand path.UpdatesCmd) ≡ codes "{\"line\":5,\"bad\":\"command\",\"path\":\"updates.cmd\"}\n")
    × (bad_line 6 (fault.InBatch 1 (refused_at 0 None rule.NotObject None))
    ≡ codes "{\"line\":6,\"refused\":\"not-object\",\"place\":0,\"id\":null,\"update\":1}\n")

abbrev pub name_of : List ℕ → List ℕ → ℕ → RuleName
name_of extension set id = record { ext = extension; set = set; id = id }

-- A fault of the pattern host names the rule at whose pattern it failed.
abbrev pub FaultsNameTheirRule : Type 0
FaultsNameTheirRule =
    fault_line 1 0 (name_of (codes "local") (codes "rules") 1)
    ≡ codes "{\"line\":1,\"generation\":0,\"fault\":\"pattern-host\",\"rule\":[\"local\",\"rules\",1]}\n"

abbrev pub said : List ℕ → WhyRule → Why
said extension rule = record { ext = extension; winner = Some rule }

abbrev pub redirected : WhyRule
redirected = record { rule = name_of (codes "b") (codes "s") 1; verb = verb.Redirect; priority = 100; frame = None; lines = [] }

abbrev pub blocked : WhyRule
blocked = record { rule = name_of (codes "a") (codes "s") 1; verb = verb.Block; priority = 1; frame = None; lines = [] }

abbrev pub exempt : WhyRule
exempt = record { rule = name_of (codes "l") (codes "list") 4; verb = verb.AllowAllRequests; priority = 3; frame = Some 0; lines = 2 ∷ 9 ∷ [] }

abbrev pub explained : List Why → Explanation
explained why = record { verdict = plain_verdict outcome.Block (Some (name_of (codes "a") (codes "s") 1)) None; why = why }

-- An explanation is the verdict, and behind it what each extension says.
abbrev pub ExplanationsAreListed : Type 0
ExplanationsAreListed =
    (explain_line 1 0 (explained (said (codes "b") redirected ∷ said (codes "a") blocked ∷ []))
    ≡ codes "{\"line\":1,\"generation\":0,\"verdict\":\"block\",\"rule\":[\"a\",\"s\",1],\"why\":[{\"extension\":\"b\",\"rule\":[\"b\",\"s\",1],\"action\":\"redirect\",\"priority\":100},{\"extension\":\"a\",\"rule\":[\"a\",\"s\",1],\"action\":\"block\",\"priority\":1}]}\n")
    × (explain_line 2 3 (explained (said (codes "l") exempt ∷ record { ext = codes "c"; winner = None } ∷ []))
    ≡ codes "{\"line\":2,\"generation\":3,\"verdict\":\"block\",\"rule\":[\"a\",\"s\",1],\"why\":[{\"extension\":\"l\",\"rule\":[\"l\",\"list\",4],\"action\":\"allowAllRequests\",\"priority\":3,\"frame\":0,\"lines\":[2,9]},{\"extension\":\"c\",\"rule\":null}]}\n")
    × (explain_line 3 0 (record { verdict = plain_verdict outcome.None None None; why = [] }) ≡ codes "{\"line\":3,\"generation\":0,\"verdict\":\"none\",\"why\":[]}\n")
