use Rattle.std.proofs.Common.{◌≡◌, [], ◌∷◌, ◌∙◌, sym, ap, subst}
use Rattle.json.specs.Token.{Token}
use Rattle.json.specs.Json.{value}
use Rattle.serde_json.specs.Data.{array}
use Rattle.rules_file.specs.Reading.{HasItems}
use Rattle.rules_file.proofs.Elements.{tree_in, list_read, list_and_more, list_broken}
use Rattle.rules_file.proofs.text.read_text.Goals as goal

pub returns-in-Ok-read_list-clause-read : goal.returns-in-Ok-read_list-clause-read
returns-in-Ok-read_list-clause-read g c =
    let ts = c.opens_list.new.reader in
    let opened : c.in-Ok.reader ≡ Token.begin_array ∷ ts = c.opens_list.ensures c.if-not-opens_list.false in
    let found = c.in-Ok-read_list.ensures.read in
    let over : c.read_list.new.reader ≡ [] = rw c.if-is_over.true at c.is_over.ensures in
    (array found.0, ap (λ ts. tree_in (value 127 ts)) (sym c.in-Ok.ensures.ok ∙ opened) ∙ list_read ts found.0 (subst (λ r. HasItems 126 ts found.0 r) over found.1), found.2)

pub returns-in-Ok-2-clause-bad : goal.returns-in-Ok-2-clause-bad
returns-in-Ok-2-clause-bad g c = λ _.
    let ts = c.opens_list.new.reader in
    let opened : c.in-Ok.reader ≡ Token.begin_array ∷ ts = c.opens_list.ensures c.if-not-opens_list.false in
    let found = c.in-Ok-2.ensures.read in
    let more = rw c.if-is_over.false at c.is_over.ensures in
    ap (λ ts. tree_in (value 127 ts)) (sym c.in-Ok.ensures.ok ∙ opened) ∙ list_and_more ts found.0 more.0 more.1 (subst (λ r. HasItems 126 ts found.0 r) more.2 found.1)

pub returns-clause-bad : goal.returns-clause-bad
returns-clause-bad g c = λ e.
    let ts = c.opens_list.new.reader in
    let opened : c.in-Ok.reader ≡ Token.begin_array ∷ ts = c.opens_list.ensures c.if-not-opens_list.false in
    ap (λ ts. tree_in (value 127 ts)) (sym c.in-Ok.ensures.ok ∙ opened) ∙ list_broken ts (c.in-Err.ensures.bad e)
