use Rattle.std.proofs.Common.{rules, ℕ, ◌==◌, Bool, lit<, sym, ap, ◌∙◌}
use Rattle.std.proofs.lemmas.Str.Pattern.{split_once_first}
use Rattle.std.specs.List.{after_first}
use Rattle.rule_prune.specs.Filters.{keeps, nearest, places_under, behind_dots}
use Rattle.rule_prune.proofs.Nearest.{nearest_both}
use Rattle.rule_prune.proofs.Tables.{behind_found, behind_none}
use Rattle.rule_prune.proofs.outdone.Search.behind_dots.Goals as goal

pub loop-behind-preserved : goal.loop-behind-preserved
loop-behind-preserved c =
    let test : ℕ → Bool = keeps c.args.self.now.rules.now c.args.self.now.gone.now c.args.self.now.place in
    let table = c.args.table.now in
    let best = c.loop-behind.best in
    let rest = c.loop-behind.rest.now in
    let behind = c.in-Some.behind.now in
    let after = after_first (λ b. b == 46) rest in
    let cut = rw c.in-Some.is at (split_once_first 46 rest c.split_once.result c.split_once.ensures.cases (lit< tt)) in
    record {
      same =
          c.loop-behind.invariant.same
          ∙ ap (nearest test best) (behind_found table rest cut.0)
          ∙ nearest_both test best (places_under table after) (behind_dots table after)
          ∙ ap (λ r. nearest test (nearest test best (places_under table r)) (behind_dots table r)) (sym cut.2)
          ∙ ap (λ b. nearest test b (behind_dots table behind)) (sym c.under-best.ensures);
      text = search rules;
    }

pub returns : goal.returns
returns c =
    let test : ℕ → Bool = keeps c.args.self.now.rules.now c.args.self.now.gone.now c.args.self.now.place in
    let rest = c.loop-behind.rest.now in
    let whole = rw c.in_default.is at (split_once_first 46 rest c.split_once.result c.split_once.ensures.cases (lit< tt)) in
    sym (c.loop-behind.invariant.same ∙ ap (nearest test c.loop-behind.best) (behind_none c.args.table.now rest whole))
