use Rattle.std.proofs.Common.{◌≡◌, ◌++◌, List, ℕ, [], ◌∷◌, cond, Bool, string_bytes, sym, ap, ◌∙◌}
use Rattle.std.proofs.lemmas.List.{append-nil}
use Rattle.hide_rules.proofs.page.push_shown.Goals as goal

pub returns-in_ok-push : goal.returns-in_ok-push
returns-in_ok-push c =
    let same : c.build.result ≡ string_bytes c.args.selector.now = c.build.ensures ∙ c.in_ok-text.ensures.ok ∙ c.as_str.ensures.value in
    c.in_ok-push.ensures.items
    ∙ ap (λ (t : List ℕ). c.args.texts.now.items ++ t ∷ []) same
    ∙ ap (λ (b : Bool). c.args.texts.now.items ++ cond b (string_bytes c.args.selector.now ∷ []) []) (sym c.if-is_shown.true ∙ c.is_shown.ensures)

pub returns-else-is_shown : goal.returns-else-is_shown
returns-else-is_shown c =
    sym (ap (λ (b : Bool). c.args.texts.now.items ++ cond b (string_bytes c.args.selector.now ∷ []) []) (sym c.is_shown.ensures ∙ c.if-is_shown.false) ∙ append-nil c.args.texts.now.items)
