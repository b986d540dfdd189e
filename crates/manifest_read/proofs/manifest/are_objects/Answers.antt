use Rattle.std.proofs.Common.{rules, tests, ◌∙◌, is_some}
use Rattle.std.proofs.lemmas.Iterator.{YieldsList-from_slice}
use Rattle.std.proofs.lemmas.Iterator.Search.{all_from_yields_List}
use Rattle.serde_json.specs.Find.{as_object}
use Rattle.serde_json.specs.View.{view}
use Rattle.manifest_read.proofs.Objects.{all_are_objects}
use Rattle.manifest_read.proofs.manifest.are_objects.Goals as goal

pub returns : goal.returns
returns c =
    all_from_yields_List (λ value. is_some (as_object (view value))) _ _ _ c.all.ensures.ran (YieldsList-from_slice c.args.values.now cc) (λ x b q k. search (rules, tests))
    ∙ all_are_objects c.args.values.now
