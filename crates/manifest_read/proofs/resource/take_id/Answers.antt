use Rattle.std.proofs.Common.{◌≡◌, ◌∙◌, ap, ◌||◌, true, List, ℕ, Bool}
use Rattle.std.specs.Prelude.{string_bytes}
use Rattle.std.specs.Str.{bytes_eq}
use Rattle.std.specs.BTreeSet.{contains_text}
use Rattle.std.proofs.lemmas.Map.Text.{btree_set_updates_text}
use Rattle.manifest_read.proofs.Ids.{or_cond}
use Rattle.manifest_read.proofs.resource.take_id.Goals as goal

pub returns : goal.returns
returns c other =
    let kept : Bool = contains_text c.args.taken.now other in
    let bytes = string_bytes c.in_ok-id.id in
    let same : bytes ≡ c.args.id.now = c.in_ok-id.ensures.ok in
    btree_set_updates_text bytes c.args.taken.now c.insert.new.self true c.in_ok-insert.ensures.updates other
    ∙ or_cond kept (bytes_eq bytes other)
    ∙ ap (λ (d : List ℕ). kept || bytes_eq d other) same
