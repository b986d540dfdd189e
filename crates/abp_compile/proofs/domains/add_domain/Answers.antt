use Rattle.std.proofs.Common.{◌≡◌, ◌∙◌, ◌++◌, ◌∷◌, [], ℕ, List, cond, true, sym, ap}
use Rattle.std.specs.Prelude.{string_bytes}
use Rattle.std.specs.Str.{bytes_eq}
use Rattle.std.proofs.lemmas.Map.Text.{btree_set_updates_text}
use Rattle.domain_set.specs.Table.{has_text}
use Rattle.abp_compile.proofs.Once.{has_one_more}
use Rattle.abp_compile.proofs.domains.add_domain.Goals as goal

pub returns-clause-table : goal.returns-clause-table
returns-clause-table c = λ text.
    let domain = c.args.domain.now in
    let kept = c.args.list.now.items in
    let key : string_bytes c.in_ok-from_str.field-0 ≡ domain = c.in_ok-from_str.ensures.ok ∙ c.as_str-2.ensures in
    btree_set_updates_text (string_bytes c.in_ok-from_str.field-0) c.args.table.now c.insert.new.self true c.in_ok-insert.ensures.updates text
    ∙ (λ i. cond (bytes_eq (key i) text) true (c.requires text i))
    ∙ sym (has_one_more kept domain text)
    ∙ ap (λ (held : List (List ℕ)). has_text held text) (sym (c.in_ok-push.ensures.items ∙ ap (λ (d : List ℕ). kept ++ d ∷ []) c.in_ok-copy.ensures))
