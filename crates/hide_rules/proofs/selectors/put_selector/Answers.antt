use Rattle.std.proofs.Common.{◌≡◌, ◌∙◌, sym, ap, ◌||◌, ◌&&◌, true, ℕ, List, Bool}
use Rattle.std.specs.Prelude.{string_bytes}
use Rattle.std.specs.Str.{bytes_eq}
use Rattle.std.specs.BTreeSet.{contains_text}
use Rattle.std.proofs.lemmas.Map.Text.{btree_set_updates_text}
use Rattle.abp_parse.proofs.Excluding.{or_cond}
use Rattle.hide_rules.specs.Ends.{applies_by}
use Rattle.hide_rules.specs.Texts.{texts_of}
use Rattle.hide_rules.proofs.selectors.put_selector.Goals as goal

pub returns-in_ok-insert : goal.returns-in_ok-insert
returns-in_ok-insert c selector =
    let kept : Bool = contains_text c.args.set.now selector in
    let here : Bool = applies_by (texts_of c.args.domains.now) c.args.line.now.domains.items in
    let is_here : here ≡ true = ap (applies_by (texts_of c.args.domains.now)) (sym c.as_slice.ensures.value) ∙ sym c.applies.ensures ∙ c.if-applies.true in
    let same : string_bytes c.in_ok-selector.selector ≡ c.args.line.now.selector = c.in_ok-selector.ensures.ok ∙ c.as_str.ensures in
    btree_set_updates_text (string_bytes c.in_ok-selector.selector) c.args.set.now c.insert.new.self true c.in_ok-insert.ensures.updates selector
    ∙ or_cond kept (bytes_eq (string_bytes c.in_ok-selector.selector) selector)
    ∙ ap (λ (t : List ℕ). kept || bytes_eq t selector) same
    ∙ sym (ap (λ (t : Bool). kept || ((t && here) && bytes_eq c.args.line.now.selector selector)) (sym c.is_kind.ensures ∙ c.if-is_kind.true)
    ∙ ap (λ (t : Bool). kept || (t && bytes_eq c.args.line.now.selector selector)) is_here)
