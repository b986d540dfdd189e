-- When one value stands for another as an update, but for the rules to add.
use Rattle.std.specs.Prelude.{◌≡◌}
use Rattle.serde_json.specs.Data.{Data}
use Rattle.rule_spec.specs.declared.placed_refusal.PlacedRefusal.{PlacedRefusal}
use Rattle.line_spec.specs.declared.update_field.UpdateField.TheVariants as field
use Rattle.line_spec.specs.Updates.{text_in, remove_in, rulesets_in, static_in, install_in, uninstall_in}
use Rattle.line_spec.specs.Stops.{StopsInInstall}

pub record SpeaksAs (kept d : Data) : Type 0 where
  pub extension : text_in field.Extension kept ≡ text_in field.Extension d
  pub remove : remove_in kept ≡ remove_in d
  pub rulesets : rulesets_in kept ≡ rulesets_in d
  pub static : static_in kept ≡ static_in d
  pub install : install_in kept ≡ install_in d
  pub uninstall : uninstall_in kept ≡ uninstall_in d
  pub stops : (refusal : PlacedRefusal) → StopsInInstall kept refusal → StopsInInstall d refusal
