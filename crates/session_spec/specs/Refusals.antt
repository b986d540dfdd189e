-- How refusals are written. A refused rule has its code, its place and id, and the path or the reason where the code
-- has one.
use Rattle.std.specs.Prelude.{ℕ, List, [], ◌∷◌, ◌++◌, codes, decimal, ℤ, pos, Option, Some, None}
use Rattle.std.specs.Fmt.{signed_decimal}
use Rattle.json.specs.Print.{quoted}
use Rattle.dnr_spec.specs.declared.pattern_refusal.PatternRefusal.{PatternRefusal}
use Rattle.dnr_spec.specs.declared.pattern_refusal.PatternRefusal.TheVariants as pattern
use Rattle.dnr_spec.specs.declared.header_refusal.HeaderRefusal.{HeaderRefusal}
use Rattle.dnr_spec.specs.declared.header_refusal.HeaderRefusal.TheVariants as header
use Rattle.dnr_spec.specs.declared.suffix_refusal.SuffixRefusal.{SuffixRefusal}
use Rattle.dnr_spec.specs.declared.suffix_refusal.SuffixRefusal.TheVariants as suffix
use Rattle.rule_spec.specs.declared.rule_path.RulePath.{RulePath}
use Rattle.rule_spec.specs.RulePath.{path_name}
use Rattle.rule_spec.specs.declared.rule_refusal.HeaderCause.{HeaderCause}
use Rattle.rule_spec.specs.declared.rule_refusal.HeaderCause.TheVariants as cause
use Rattle.rule_spec.specs.declared.rule_refusal.RuleRefusal.{RuleRefusal}
use Rattle.rule_spec.specs.declared.rule_refusal.RuleRefusal.TheVariants as rule
use Rattle.rule_spec.specs.declared.placed_refusal.PlacedRefusal.{PlacedRefusal}
use Rattle.json_spec.specs.RulesFile.{FileRefusal, bad_json, bad_rules}
use Rattle.list_spec.specs.declared.reason.Reason.{Reason}
use Rattle.list_spec.specs.declared.reason.Reason.TheVariants as reason
use Rattle.compile_spec.specs.declared.reported.Reported.{Reported}
use Rattle.update_spec.specs.declared.refusal.Refusal.{Refusal}
use Rattle.update_spec.specs.declared.refusal.Refusal.TheVariants as update
use Rattle.load_spec.specs.ManifestPath as manifest
use Rattle.load_spec.specs.Extensions.{FileCause, bad_rules_file, bad_manifest, RefusedFile}
use Rattle.update_spec.specs.Entries.{RefusedInstall}

-- Want of memory is written nowhere; its name here is that of its status.
abbrev pub no_memory : List ℕ
no_memory = codes "no-memory"

abbrev pub pattern_why : PatternRefusal → List ℕ
pattern_why pattern.Empty = codes "empty"
pattern_why pattern.TooLong = codes "too-long"
pattern_why pattern.AnchorStar = codes "anchor-star"
pattern_why pattern.NotAscii = codes "not-ascii"
pattern_why pattern.NoMemory = no_memory

abbrev pub op_why : HeaderRefusal → List ℕ
op_why header.BadName = codes "bad-name"
op_why header.BadValue = codes "bad-value"
op_why header.ValueMissing = codes "value-missing"
op_why header.ValueGiven = codes "value-given"
op_why header.AppendNotAllowed = codes "append-not-allowed"
op_why header.NoMemory = no_memory

abbrev pub header_why : HeaderCause → List ℕ
header_why cause.NoHeaders = codes "no-headers"
header_why cause.BadShape = codes "bad-shape"
header_why (cause.Op refusal) = op_why refusal

abbrev pub rule_code : RuleRefusal → List ℕ
rule_code rule.NotObject = codes "not-object"
rule_code rule.BadId = codes "bad-id"
rule_code rule.DuplicateId = codes "duplicate-id"
rule_code rule.BadPriority = codes "bad-priority"
rule_code (rule.BadField path) = codes "bad-field"
rule_code rule.BothFilters = codes "both-filters"
rule_code (rule.BadUrlFilter refusal) = codes "bad-url-filter"
rule_code rule.BadRegex = codes "bad-regex"
rule_code (rule.BadDomain path) = codes "bad-domain"
rule_code (rule.EmptyList path) = codes "empty-list"
rule_code rule.BothTypeLists = codes "both-type-lists"
rule_code rule.AllowAllTypes = codes "allow-all-types"
rule_code (rule.BadHeaderTest path) = codes "bad-header-test"
rule_code rule.TabsNotSession = codes "tabs-not-session"
rule_code rule.BadAction = codes "bad-action"
rule_code rule.BadRedirect = codes "bad-redirect"
rule_code rule.BadTransform = codes "bad-transform"
rule_code (rule.BadHeader cause) = codes "bad-header"
rule_code rule.HostFault = codes "pattern-host"
rule_code rule.NoMemory = no_memory

-- what a refusal adds to its code
pub data Detail : Type 0 where
  nothing : Detail
  path : RulePath → Detail
  why : List ℕ → Detail

abbrev pub detail_of : RuleRefusal → Detail
detail_of rule.NotObject = nothing
detail_of rule.BadId = nothing
detail_of rule.DuplicateId = nothing
detail_of rule.BadPriority = nothing
detail_of (rule.BadField field) = path field
detail_of rule.BothFilters = nothing
detail_of (rule.BadUrlFilter refusal) = why (pattern_why refusal)
detail_of rule.BadRegex = nothing
detail_of (rule.BadDomain field) = path field
detail_of (rule.EmptyList field) = path field
detail_of rule.BothTypeLists = nothing
detail_of rule.AllowAllTypes = nothing
detail_of (rule.BadHeaderTest field) = path field
detail_of rule.TabsNotSession = nothing
detail_of rule.BadAction = nothing
detail_of rule.BadRedirect = nothing
detail_of rule.BadTransform = nothing
detail_of (rule.BadHeader cause) = why (header_why cause)
detail_of rule.HostFault = nothing
detail_of rule.NoMemory = nothing

abbrev pub detail_field : Detail → List ℕ
detail_field nothing = []
detail_field (path field) = codes ",\"path\":\"" ++ path_name field ++ codes "\""
detail_field (why reason) = codes ",\"why\":\"" ++ reason ++ codes "\""

-- an id, or null where the rule has no valid one
abbrev pub id_text : Option ℕ → List ℕ
id_text None = codes "null"
id_text (Some id) = decimal id

-- the ruleset that the list belongs to, where several are read at once
abbrev pub ruleset_field : Option (List ℕ) → List ℕ
ruleset_field None = []
ruleset_field (Some id) = codes ",\"ruleset\":" ++ quoted id

-- the code of a refused rule of a list, and its fields
abbrev pub rule_fields : PlacedRefusal → List ℕ
rule_fields refusal =
    codes "\"" ++ rule_code refusal.cause ++ codes "\",\"place\":" ++ decimal refusal.place ++ codes ",\"id\":" ++ id_text refusal.id
    ++ detail_field (detail_of refusal.cause) ++ ruleset_field refusal.set

abbrev pub file_fields : FileRefusal → List ℕ
file_fields bad_json = codes "\"bad-json\""
file_fields (bad_rules refusal) = rule_fields refusal

-- ---- files

-- what a file prints that is refused, with these fields
abbrev pub file_line : List ℕ → List ℕ → List ℕ
file_line file fields = codes "{\"file\":" ++ quoted file ++ codes ",\"refused\":" ++ fields ++ codes "}\n"

-- a rules file
abbrev pub refusal_line : List ℕ → FileRefusal → List ℕ
refusal_line file refusal = file_line file (file_fields refusal)

-- a file of an extension
abbrev pub cause_fields : FileCause → List ℕ
cause_fields (bad_rules_file refusal) = file_fields refusal
cause_fields (bad_manifest field) = codes "\"bad-manifest\",\"path\":\"" ++ manifest.path_name field ++ codes "\""

abbrev pub refused_file_line : RefusedFile → List ℕ
refused_file_line refused = file_line refused.file (cause_fields refused.cause)

-- a suffix list
abbrev pub suffix_fields : SuffixRefusal → List ℕ
suffix_fields suffix.NotUtf8 = codes "\"not-utf8\""
suffix_fields (suffix.BadRule line) = codes "\"bad-suffix\",\"line\":" ++ decimal line
suffix_fields suffix.TooManyRules = codes "\"too-many-rules\""
suffix_fields suffix.NoMemory = codes "\"" ++ no_memory ++ codes "\""

abbrev pub suffixes_line : List ℕ → SuffixRefusal → List ℕ
suffixes_line file refusal = file_line file (suffix_fields refusal)

-- a filter list: it gives too many rules, or a pattern host failed at the line of this number
pub data ListRefusal : Type 0 where
  too_many_rules : ℕ → ListRefusal
  host_failed : ℕ → ListRefusal

abbrev pub list_fields : ListRefusal → List ℕ
list_fields (too_many_rules count) = codes "\"too-many-rules\",\"count\":" ++ decimal count
list_fields (host_failed line) = codes "\"pattern-host\",\"line\":" ++ decimal line

abbrev pub list_line : List ℕ → ListRefusal → List ℕ
list_line file refusal = file_line file (list_fields refusal)

-- ---- updates and installations

abbrev pub update_code : Refusal → List ℕ
update_code (update.NoExtension name) = codes "no-extension"
update_code (update.ExtensionThere name) = codes "extension-there"
update_code (update.NoRuleset id) = codes "no-ruleset"
update_code (update.DuplicateId id) = codes "duplicate-id"
update_code (update.NoStaticRule id) = codes "no-static-rule"
update_code (update.BothLists id) = codes "both-lists"
update_code (update.ExtensionLimit count) = codes "extension-limit"
update_code (update.RulesetLimit count) = codes "ruleset-limit"
update_code (update.RulesLimit count) = codes "rules-limit"
update_code (update.EnabledLimit count) = codes "enabled-limit"
update_code (update.PoolLimit count) = codes "pool-limit"
update_code (update.DynamicLimit count) = codes "dynamic-limit"
update_code (update.UnsafeLimit count) = codes "unsafe-limit"
update_code (update.SessionLimit count) = codes "session-limit"
update_code (update.RegexLimit count) = codes "regex-limit"
update_code (update.DisabledLimit count) = codes "disabled-limit"
update_code (update.TooManyUpdates count) = codes "too-many-updates"
update_code update.NoMemory = no_memory

-- what a refusal of an update adds to its code: what it names, or the count that a limit is compared with
pub data UpdateDetail : Type 0 where
  alone : UpdateDetail
  of_extension : List ℕ → UpdateDetail
  of_ruleset : List ℕ → UpdateDetail
  of_id : ℤ → UpdateDetail
  of_count : ℕ → UpdateDetail

abbrev pub update_detail : Refusal → UpdateDetail
update_detail (update.NoExtension name) = of_extension name
update_detail (update.ExtensionThere name) = of_extension name
update_detail (update.NoRuleset id) = of_ruleset id
update_detail (update.DuplicateId id) = of_id (pos id)
update_detail (update.NoStaticRule id) = of_id id
update_detail (update.BothLists id) = of_id id
update_detail (update.ExtensionLimit count) = of_count count
update_detail (update.RulesetLimit count) = of_count count
update_detail (update.RulesLimit count) = of_count count
update_detail (update.EnabledLimit count) = of_count count
update_detail (update.PoolLimit count) = of_count count
update_detail (update.DynamicLimit count) = of_count count
update_detail (update.UnsafeLimit count) = of_count count
update_detail (update.SessionLimit count) = of_count count
update_detail (update.RegexLimit count) = of_count count
update_detail (update.DisabledLimit count) = of_count count
update_detail (update.TooManyUpdates count) = of_count count
update_detail update.NoMemory = alone

-- an id may be any whole number
abbrev pub update_field : UpdateDetail → List ℕ
update_field alone = []
update_field (of_extension name) = codes ",\"extension\":" ++ quoted name
update_field (of_ruleset id) = codes ",\"ruleset\":" ++ quoted id
update_field (of_id id) = codes ",\"id\":" ++ signed_decimal id
update_field (of_count count) = codes ",\"count\":" ++ decimal count

abbrev pub code_text : List ℕ → List ℕ
code_text code = codes "\"" ++ (code ++ codes "\"")

-- the code of a refused update, and its field
abbrev pub update_fields : Refusal → List ℕ
update_fields refusal = code_text (update_code refusal) ++ update_field (update_detail refusal)

-- the extension is not named twice
abbrev pub unless_named : UpdateDetail → UpdateDetail
unless_named alone = alone
unless_named (of_extension name) = alone
unless_named (of_ruleset id) = of_ruleset id
unless_named (of_id id) = of_id id
unless_named (of_count count) = of_count count

-- what an extension prints that is not installed
abbrev pub install_line : RefusedInstall → List ℕ
install_line refused =
    codes "{\"extension\":" ++ (quoted refused.extension ++ (codes ",\"refused\":" ++ (code_text (update_code refused.cause)
    ++ (update_field (unless_named (update_detail refused.cause)) ++ codes "}\n"))))

-- ---- counts and reports

-- what `check` prints of a file with so many rules, and `compile` of a list that gives so many
abbrev pub count_line : ℕ → List ℕ
count_line count = codes "{\"rules\":" ++ decimal count ++ codes "}\n"

abbrev pub reason_code : Reason → List ℕ
reason_code reason.LineTooLong = codes "line-too-long"
reason_code reason.ElementHiding = codes "element-hiding"
reason_code reason.NotAscii = codes "not-ascii"
reason_code reason.Space = codes "space"
reason_code (reason.UnknownOption name) = codes "unknown-option"
reason_code (reason.OptionValue name) = codes "option-value"
reason_code reason.DocumentOnBlock = codes "document-on-block"
reason_code reason.BadDomain = codes "bad-domain"
reason_code reason.EmptyPattern = codes "empty-pattern"
reason_code reason.AnchorStar = codes "anchor-star"
reason_code reason.BadRegex = codes "bad-regex"

-- the option that is at fault, if one is
abbrev pub option_at_fault : Reason → Option (List ℕ)
option_at_fault (reason.UnknownOption name) = Some name
option_at_fault (reason.OptionValue name) = Some name
option_at_fault _ = None

abbrev pub name_field : Option (List ℕ) → List ℕ
name_field None = []
name_field (Some name) = codes ",\"name\":" ++ quoted name

-- what `compile` prints of a line that gives nothing
abbrev pub unsupported_line : Reported → List ℕ
unsupported_line one =
    codes "{\"line\":" ++ decimal one.line ++ codes ",\"unsupported\":\"" ++ reason_code one.reason ++ codes "\""
    ++ name_field (option_at_fault one.reason) ++ codes "}\n"

-- what is printed of each, one line after another
abbrev pub each_line : {X : Type 0} → (X → List ℕ) → List X → List ℕ
each_line line [] = []
each_line line (one ∷ others) = line one ++ each_line line others

abbrev pub unsupported_lines : List Reported → List ℕ
unsupported_lines reported = each_line unsupported_line reported
