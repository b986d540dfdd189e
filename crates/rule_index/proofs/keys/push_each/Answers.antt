use Rattle.std.proofs.Common.{arith, ◌≡◌, ◌++◌, ◌∷◌, [], List, ℕ, true, false, cond, ap, ◌∙◌}
use Rattle.std.specs.Prelude.{string_bytes}
use Rattle.std.specs.Str.{bytes_eq}
use Rattle.std.specs.BTreeSet.{contains_text}
use Rattle.std.proofs.lemmas.Grind.{common_steps}
use Rattle.std.proofs.lemmas.Map.Text.{btree_set_updates_text}
use Rattle.rule_index.specs.Kinds.{key_by}
use Rattle.rule_index.proofs.Once.{passed_over, put}
use Rattle.rule_index.proofs.keys.push_each.Goals as goal

pub loop-text-preserved-in_ok-insert : goal.loop-text-preserved-in_ok-insert
loop-text-preserved-in_ok-insert c =
    let text : List ℕ = c.in-Some.text.now in
    let key : string_bytes c.in_ok-from_str.field-0 ≡ text = c.in_ok-from_str.ensures.ok ∙ c.as_str-then-not-contains.ensures in
    let has : contains_text c.loop-text.seen text ≡ false = grind (arith, common_steps, c.if-not-contains.true, c.contains.ensures, c.as_str.ensures) in
    put (key_by c.args.kind) c.loop-text.keys.items c.push.new.self.items _ (contains_text c.loop-text.seen) (contains_text c.insert.new.self) text c.loop-text.left.now c.in-Some.rest.now
    c.in-Some.ensures.cases.0 has
    (λ other. btree_set_updates_text (string_bytes c.in_ok-from_str.field-0) c.loop-text.seen c.insert.new.self true c.in_ok-insert.ensures.updates other
    ∙ ap (λ key. cond (bytes_eq key other) true (contains_text c.loop-text.seen other)) key)
    (c.in_ok-push.ensures.items ∙ ap (λ key. c.loop-text.keys.items ++ key ∷ []) (c.key_by.ensures ∙ ap (key_by c.args.kind) c.in_ok-copy.ensures))
    c.loop-text.invariant

pub loop-text-preserved : goal.loop-text-preserved
loop-text-preserved c =
    let text : List ℕ = c.in-Some.text.now in
    let has : contains_text c.loop-text.seen text ≡ true = grind (arith, common_steps, c.if-not-contains.false, c.contains.ensures, c.as_str.ensures) in
    passed_over (key_by c.args.kind) c.loop-text.keys.items _ (contains_text c.loop-text.seen) text c.loop-text.left.now c.in-Some.rest.now c.in-Some.ensures.cases.0 has c.loop-text.invariant
