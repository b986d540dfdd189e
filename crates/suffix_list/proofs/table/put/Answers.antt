use Rattle.std.proofs.Common.{true, ◌∙◌, string_bytes}
use Rattle.std.specs.HashSet.{contains_text}
use Rattle.std.specs.Str.{bytes_eq}
use Rattle.std.proofs.lemmas.Map.Text.{hash_set_updates_text}
use Rattle.suffix_list.proofs.Put.{cond_or, cond_apart}
use Rattle.suffix_list.proofs.table.put.Goals as goal

pub returns-clause-added : goal.returns-clause-added
returns-clause-added c = λ q. hash_set_updates_text (string_bytes c.args.text) c.args.texts.now c.insert.new.self true c.in_ok-insert.ensures.updates q ∙ cond_or (bytes_eq (string_bytes c.args.text) q) (contains_text c.args.texts.now q)

pub returns-clause-others : goal.returns-clause-others
returns-clause-others c = λ q apart. hash_set_updates_text (string_bytes c.args.text) c.args.texts.now c.insert.new.self true c.in_ok-insert.ensures.updates q ∙ cond_apart (bytes_eq (string_bytes c.args.text) q) (contains_text c.args.texts.now q) apart
