use Rattle.std.proofs.Common.{ℕ, List, ◌++◌, Bool, String, Global, map, string_bytes, string_cmp, sym, ap, ◌∙◌, subst}
use Rattle.std.specs.Prelude.{filter}
use Rattle.std.specs.BTreeSet.{union}
use Rattle.std.specs.List.Sorted.{IsStrictlySortedBy}
use Rattle.std.specs.Ordering.{eq_by_cmp}
use Rattle.std.specs.Set.{IsUnion}
use Rattle.std.proofs.lemmas.List.{append-nil}
use Rattle.hide_rules.specs.Index.{is_shown}
use Rattle.hide_rules.proofs.Shown.{merged_is, one_shown}
use Rattle.hide_rules.proofs.page.merged.Goals as goal

pub loop-selector-preserved : goal.loop-selector-preserved
loop-selector-preserved c =
    let shown : List ℕ → Bool = is_shown c.args.index.now c.args.kept.now in
    ap (λ (t : List (List ℕ)). t ++ filter shown (map string_bytes c.next.new.self)) c.in_ok-push_shown.ensures
    ∙ one_shown shown c.loop-selector.texts.items (string_bytes c.in-Some.selector.now) (map string_bytes c.next.new.self)
    ∙ sym (ap (λ (keys : List (String Global)). c.loop-selector.texts.items ++ filter shown (map string_bytes keys)) c.in-Some.ensures.steps)
    ∙ c.loop-selector.invariant

pub returns : goal.returns
returns c =
    let shown : List ℕ → Bool = is_shown c.args.index.now c.args.kept.now in
    let keys : List (String Global) = union string_cmp c.args.index.now.hidden c.args.hidden.now in
    merged_is shown c.args.index.now.hidden c.args.hidden.now keys c.loop-selector.texts.items
    (subst (λ (some : List (String Global)). IsStrictlySortedBy string_cmp some) c.union-selector-items.ensures.rest c.union-selector-items.ensures.ordered)
    (subst (λ (some : List (String Global)). IsUnion (eq_by_cmp string_cmp) c.args.index.now.hidden.keys c.args.hidden.now.keys some) c.union-selector-items.ensures.rest c.union-selector-items.ensures.members)
    (sym (append-nil c.loop-selector.texts.items)
    ∙ sym (ap (λ (some : List (String Global)). c.loop-selector.texts.items ++ filter shown (map string_bytes some)) c.in-None.ensures.steps.0)
    ∙ c.loop-selector.invariant)
