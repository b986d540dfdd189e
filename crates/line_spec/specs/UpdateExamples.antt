-- Examples of script lines that ask for updates, each computed from the definitions alone.
use Rattle.std.specs.Prelude.{◌≡◌, ℕ, pos, negsuc, List, [], ◌∷◌, ◌++◌, codes, replicate, true, Option, Some, None, Result, Ok, Err}
use Rattle.serde_json.specs.Data.{array, object, no_members, member}
use Rattle.serde_json.specs.View.{items_of}
use Rattle.rule_spec.specs.declared.placed_refusal.PlacedRefusal.{PlacedRefusal}
use Rattle.rule_spec.specs.declared.rule_refusal.RuleRefusal.{RuleRefusal}
use Rattle.rule_spec.specs.declared.rule_refusal.RuleRefusal.TheVariants as cause
use Rattle.rule_spec.specs.Rule.{Rule, block}
use Rattle.rule_spec.specs.Examples.{rule_of}
use Rattle.update_spec.specs.Update.{NewRuleSet, dynamic, session, rulesets, static, install, uninstall}
use Rattle.line_spec.specs.declared.command_path.CommandPath.TheVariants as path
use Rattle.line_spec.specs.declared.update_field.UpdateField.{UpdateField}
use Rattle.line_spec.specs.declared.update_field.UpdateField.TheVariants as field
use Rattle.line_spec.specs.declared.line_fault.LineFault.{LineFault}
use Rattle.line_spec.specs.declared.line_fault.LineFault.TheVariants.{BadCommand, RuleRefused, InBatch}
use Rattle.line_spec.specs.Batch.{batch_in}
use Rattle.line_spec.specs.Line.{Command, sync, update, batch, command_of}
use Rattle.line_spec.specs.Stops.{StopsInLine}

-- ---- what is read

-- the line that asks for this
abbrev pub line_of : List ℕ → Result Command LineFault
line_of text = command_of 1 text

-- a line of this command with these fields, of the extension `a`
abbrev pub asks : List ℕ → List ℕ → Result Command LineFault
asks cmd fields = line_of (codes "{\"cmd\":\"" ++ cmd ++ codes "\",\"extension\":\"a\"" ++ fields ++ codes "}")

abbrev pub lacks : UpdateField → Result Command LineFault
lacks f = Err (BadCommand (path.Update f))

-- a rule that blocks every script of `a.com`, as text and as it is read
abbrev pub rule_text : List ℕ
rule_text = codes "{\"id\":1,\"condition\":{\"urlFilter\":\"||a.com^\"},\"action\":{\"type\":\"block\"}}"

abbrev pub first_rule : Rule
first_rule = rule_of 1 1 (codes "||a.com^") block

abbrev pub refused : ℕ → Option ℕ → RuleRefusal → Option (List ℕ) → PlacedRefusal
refused place id cause set = record { place = place; id = id; cause = cause; set = set }

abbrev pub set_of : List ℕ → List Rule → NewRuleSet
set_of id rules = record { id = id; enabled = true; rules = rules; origins = [] }

-- ---- commands

-- The six updates, and to wait for them.
abbrev pub UpdatesAreRead : Type 0
UpdatesAreRead =
    (line_of (codes "{\"cmd\":\"sync\"}") ≡ Ok sync)
    × (asks (codes "dynamic") (codes ",\"addRules\":[" ++ rule_text ++ codes "]") ≡ Ok (update (dynamic (codes "a") [] (first_rule ∷ []))))
    × (asks (codes "session") (codes ",\"removeRuleIds\":[7]") ≡ Ok (update (session (codes "a") (7 ∷ []) [])))
    × (asks (codes "rulesets") (codes ",\"enableRulesetIds\":[\"s\"]") ≡ Ok (update (rulesets (codes "a") [] (codes "s" ∷ []))))
    × (asks (codes "static") (codes ",\"rulesetId\":\"s\",\"disableRuleIds\":[1]") ≡ Ok (update (static (codes "a") (codes "s") (pos 1 ∷ []) [])))
    × (asks (codes "uninstall") [] ≡ Ok (update (uninstall (codes "a"))))

-- An extension is installed with its rulesets, and with what it may touch, where that is said.
abbrev pub ExtensionsAreInstalled : Type 0
ExtensionsAreInstalled =
    (asks (codes "install") (codes ",\"rulesets\":[{\"id\":\"s\",\"enabled\":true,\"rules\":[" ++ rule_text ++ codes "]}],\"hostPermissions\":[\"*://a.com/*\"]")
    ≡ Ok (update (install (record { name = codes "a"; sets = set_of (codes "s") (first_rule ∷ []) ∷ []; access = Some (codes "*://a.com/*" ∷ []) }))))
    × (asks (codes "install") (codes ",\"rulesets\":[]") ≡ Ok (update (install (record { name = codes "a"; sets = []; access = None }))))

-- Fields are tested in their order, and the first at fault is named; a null is a value of another form.
abbrev pub FirstUpdateFieldAtFaultIsNamed : Type 0
FirstUpdateFieldAtFaultIsNamed =
    (line_of (codes "{\"cmd\":\"dynamic\",\"addRules\":null,\"removeRuleIds\":null}") ≡ lacks field.Extension)
    × (asks (codes "dynamic") (codes ",\"addRules\":null,\"removeRuleIds\":null") ≡ lacks field.RemoveRuleIds)
    × (asks (codes "dynamic") (codes ",\"addRules\":null") ≡ lacks field.AddRules)
    × (asks (codes "rulesets") (codes ",\"enableRulesetIds\":[1],\"disableRulesetIds\":{}") ≡ lacks field.DisableRulesetIds)
    × (asks (codes "static") (codes ",\"enableRuleIds\":[\"1\"]") ≡ lacks field.RulesetId)
    × (asks (codes "static") (codes ",\"rulesetId\":\"s\",\"enableRuleIds\":[\"1\"]") ≡ lacks field.EnableRuleIds)
    × (line_of (codes "{\"cmd\":\"install\",\"extension\":\"A\"}") ≡ lacks field.Extension)

-- Of the ids to remove those stay that a rule may have; a number with a fraction, or `-0`, is none.
abbrev pub IdsToRemoveAreRuleIds : Type 0
IdsToRemoveAreRuleIds =
    (asks (codes "dynamic") (codes ",\"removeRuleIds\":[0,-1,2147483647,2147483648,18446744073709551615,7,7]")
    ≡ Ok (update (dynamic (codes "a") (2147483647 ∷ 7 ∷ 7 ∷ []) [])))
    × (asks (codes "dynamic") (codes ",\"removeRuleIds\":[-0]") ≡ lacks field.RemoveRuleIds)
    × (asks (codes "dynamic") (codes ",\"removeRuleIds\":[1.0]") ≡ lacks field.RemoveRuleIds)
    × (asks (codes "dynamic") (codes ",\"removeRuleIds\":[18446744073709551616]") ≡ lacks field.RemoveRuleIds)

-- Ids to disable and to enable are any whole numbers.
abbrev pub IdsToSwitchAreWhole : Type 0
IdsToSwitchAreWhole =
    (asks (codes "static") (codes ",\"rulesetId\":\"s\",\"disableRuleIds\":[0,-5],\"enableRuleIds\":[99999999999]")
    ≡ Ok (update (static (codes "a") (codes "s") (pos 0 ∷ negsuc 4 ∷ []) (pos 99999999999 ∷ []))))
    × (asks (codes "static") (codes ",\"rulesetId\":\"s\",\"disableRuleIds\":[-0]") ≡ lacks field.DisableRuleIds)

-- ---- rules

-- Rules are read as those of their kind, and the first that is refused has its place.
abbrev pub RefusedRulesHavePlaces : Type 0
RefusedRulesHavePlaces =
    (asks (codes "dynamic") (codes ",\"addRules\":[{}]") ≡ Err (RuleRefused (refused 0 None cause.BadId None)))
    × (asks (codes "dynamic") (codes ",\"addRules\":[" ++ rule_text ++ codes "," ++ rule_text ++ codes "]") ≡ Err (RuleRefused (refused 1 (Some 1) cause.DuplicateId None)))
    × (asks (codes "dynamic") (codes ",\"addRules\":[{\"id\":1,\"condition\":{\"tabIds\":[7]},\"action\":{\"type\":\"block\"}}]")
    ≡ Err (RuleRefused (refused 0 (Some 1) cause.TabsNotSession None)))

-- A refused rule of an installation has its ruleset too. Rulesets are read one by one, and what an extension may touch
-- behind them.
abbrev pub RefusedRulesHaveRulesets : Type 0
RefusedRulesHaveRulesets =
    (asks (codes "install") (codes ",\"hostPermissions\":1,\"rulesets\":[{\"id\":\"s\",\"enabled\":true,\"rules\":[{}]},1]")
    ≡ Err (RuleRefused (refused 0 None cause.BadId (Some (codes "s")))))
    × (asks (codes "install") (codes ",\"hostPermissions\":1,\"rulesets\":[{\"id\":\"s\",\"enabled\":true,\"rules\":[]},{\"id\":\"s\",\"enabled\":true,\"rules\":[{}]}]")
    ≡ lacks field.Rulesets)
    × (asks (codes "install") (codes ",\"hostPermissions\":1,\"rulesets\":[{\"id\":\"_s\",\"enabled\":true,\"rules\":[]}]") ≡ lacks field.Rulesets)
    × (asks (codes "install") (codes ",\"rulesets\":[{\"id\":\"s\",\"enabled\":true}]") ≡ lacks field.Rulesets)
    × (asks (codes "install") (codes ",\"hostPermissions\":1,\"rulesets\":[]") ≡ lacks field.HostPermissions)

-- ---- batches

abbrev pub batch_line : List ℕ → Result Command LineFault
batch_line elements = line_of (codes "{\"cmd\":\"batch\",\"updates\":" ++ elements ++ codes "}")

-- Updates stand in a batch, and nothing else. They are read in turn, and the first at fault is named.
abbrev pub BatchesAreReadInTurn : Type 0
BatchesAreReadInTurn =
    (batch_line (codes "[{\"cmd\":\"uninstall\",\"extension\":\"a\"}]") ≡ Ok (batch (uninstall (codes "a") ∷ [])))
    × (batch_line (codes "[{\"cmd\":\"uninstall\",\"extension\":\"a\"},1]") ≡ Err (BadCommand path.Updates))
    × (batch_line (codes "[{\"url\":\"http://a.com/\",\"type\":\"image\"},1]") ≡ Err (BadCommand path.UpdatesCmd))
    × (batch_line (codes "[{\"cmd\":\"batch\",\"updates\":[]}]") ≡ Err (BadCommand path.UpdatesCmd))
    × (batch_line (codes "[{\"cmd\":\"uninstall\"},{}]") ≡ Err (BadCommand (path.InUpdates field.Extension)))
    × (batch_line (codes "[{\"cmd\":\"uninstall\",\"extension\":\"a\"},{\"cmd\":\"dynamic\",\"extension\":\"a\",\"addRules\":[{}]}]")
    ≡ Err (InBatch 1 (refused 0 None cause.BadId None)))

-- A batch has from 1 to 256 updates, and their count is tested before any of them.
abbrev pub BatchesHaveALimit : Type 0
BatchesHaveALimit =
    (batch_line (codes "[]") ≡ Err (BadCommand path.Updates))
    × (batch_line (codes "{}") ≡ Err (BadCommand path.Updates))
    × (batch_in (object (member (codes "updates") (array (items_of (replicate 257 (object no_members)))) no_members)) ≡ Err (BadCommand path.Updates))
    × (batch_in (object (member (codes "updates") (array (items_of (replicate 256 (object no_members)))) no_members)) ≡ Err (BadCommand path.UpdatesCmd))

-- ---- pattern hosts

abbrev pub pattern_rule : List ℕ
pattern_rule = codes "{\"id\":2,\"condition\":{\"regexFilter\":\"a\"},\"action\":{\"type\":\"none\"}}"

-- Where a pattern host fails a line is refused at the rule of the pattern, though something behind it is at fault.
abbrev pub HostsFailAtPatterns : Type 0
HostsFailAtPatterns =
    StopsInLine (codes "{\"cmd\":\"dynamic\",\"extension\":\"a\",\"addRules\":[" ++ rule_text ++ codes "," ++ pattern_rule ++ codes "]}")
    (RuleRefused (refused 1 (Some 2) cause.HostFault None))
