-- A filter list as an extension: its rules are the one static ruleset.
use Rattle.std.specs.Prelude.{ℕ, List, [], ◌∷◌, codes, true, None}
use Rattle.rule_spec.specs.State.{Extension}
use Rattle.update_spec.specs.Update.{NewExtension, installed}
use Rattle.compile_spec.specs.Compiled.{CompiledRule, rules_in, origins_in}

-- what is installed of this name: the enabled ruleset `list`, and no restriction of access
abbrev pub new_list : List ℕ → List CompiledRule → NewExtension
new_list name rules = record {
  name = name;
  sets = record { id = codes "list"; enabled = true; rules = rules_in rules; origins = origins_in rules } ∷ [];
  access = None;
}

-- the extension that this becomes
abbrev pub list_extension : List ℕ → List CompiledRule → Extension
list_extension name rules = installed (new_list name rules)
