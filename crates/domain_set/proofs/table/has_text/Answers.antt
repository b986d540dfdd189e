use Rattle.std.proofs.Common.{rules, ◌≡◌, ◌∙◌, ap}
use Rattle.std.proofs.lemmas.Fn.{always_returns_same}
use Rattle.domain_set.specs.Table.{has_text}
use Rattle.domain_set.proofs.Found.{compared, found}
use Rattle.domain_set.proofs.table.has_text.Goals as goal

pub returns : goal.returns
returns c =
    let list = c.args.entries.now in
    let text = c.as_bytes-text.result.now in
    let by_text = c.binary_search_by.ensures.position (compared list text) (always_returns_same _ (λ a r. r ≡ compared list text a.0.now) _ (λ a r f' k. search rules)) in
    c.is_ok.ensures.value
    ∙ found list c.args.order.now text c.requires c.binary_search_by.result c.binary_search_by.ensures.bound by_text
    ∙ ap (has_text list) c.as_bytes-text.ensures.value
