use Rattle.std.proofs.Common.{◌≡◌, ◌∷◌, List, ℕ, length, ap, sym, ◌∙◌, rules, arith}
use Rattle.dnr_spec.specs.Hosts.{labels_of}
use Rattle.suffix_list.specs.Kept.{listed_len}
use Rattle.suffix_list.proofs.Cuts.{labels_behind, first_cut}
use Rattle.suffix_list.proofs.Rules.{listed_at_hit, listed_at_miss, listed_none}
use Rattle.suffix_list.proofs.tables.Tables.longest_listed.Goals as goal

pub returns-then-has_rule : goal.returns-then-has_rule
returns-then-has_rule c = λ rules t.
    c.loop-behind.invariant.1
    ∙ sym (c.loop-behind.invariant.2 rules t ∙ listed_at_hit rules c.args.self.now.plain.texts c.args.self.now.starred.texts c.args.self.now.others.items t c.loop-behind.rest.now c.split_first_label.result.0.now c.split_first_label.result.1 c.split_first_label.ensures.labels (sym c.has_rule.ensures ∙ c.if-has_rule.true))

pub returns-in_default : goal.returns-in_default
returns-in_default c = λ rules t.
    sym (c.loop-behind.invariant.2 rules t
    ∙ listed_at_miss rules c.args.self.now.plain.texts c.args.self.now.starred.texts c.args.self.now.others.items t c.loop-behind.rest.now c.split_first_label.result.0.now c.split_first_label.result.1 c.split_first_label.ensures.labels (sym c.has_rule.ensures ∙ c.if-has_rule.false)
    ∙ ap (λ o. listed_len (labels_behind o) rules) c.in_default.is ∙ listed_none rules)

pub loop-behind-preserved : goal.loop-behind-preserved
loop-behind-preserved c =
    let cut : labels_of c.loop-behind.rest.now ≡ c.split_first_label.result.0.now ∷ labels_behind c.split_first_label.result.1 = first_cut c.loop-behind.rest.now c.split_first_label.result.0.now c.split_first_label.result.1 c.split_first_label.ensures.labels in
    let behind : labels_behind c.split_first_label.result.1 ≡ labels_of c.in-Some.others.now = ap labels_behind c.in-Some.is in
    let count : length (labels_of c.loop-behind.rest.now) ≡ length (c.split_first_label.result.0.now ∷ labels_of c.in-Some.others.now) = ap (λ (ls : List (List ℕ)). length ls) (cut ∙ ap (λ (ls : List (List ℕ)). c.split_first_label.result.0.now ∷ ls) behind) in (
      search rules,
      omega arith,
      λ rules t. c.loop-behind.invariant.2 rules t
          ∙ listed_at_miss rules c.args.self.now.plain.texts c.args.self.now.starred.texts c.args.self.now.others.items t c.loop-behind.rest.now c.split_first_label.result.0.now c.split_first_label.result.1 c.split_first_label.ensures.labels (sym c.has_rule.ensures ∙ c.if-has_rule.false)
          ∙ ap (λ ls. listed_len ls rules) behind,
    )
