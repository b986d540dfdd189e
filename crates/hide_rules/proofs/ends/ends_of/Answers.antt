use Rattle.std.proofs.Common.{rules, ◌∷◌, lit<, sym, ap, ◌∙◌}
use Rattle.std.proofs.lemmas.Str.Pattern.{split_once_first}
use Rattle.hide_rules.specs.Ends.{ends_behind}
use Rattle.hide_rules.proofs.Dots.{ends_found, ends_none, one_end_more, no_end_more}
use Rattle.hide_rules.proofs.ends.ends_of.Goals as goal

pub loop-behind-preserved : goal.loop-behind-preserved
loop-behind-preserved c =
    let rest = c.loop-behind.rest.now in
    let cut = rw c.in-Some.is at (split_once_first 46 rest c.split_once.result c.split_once.ensures.cases (lit< tt)) in
    record {
      ends = one_end_more c.loop-behind.ends.items c.push-in-Some.new.self.items c.in-Some.behind rest _ c.in_ok-push-2.ensures.items (ends_found rest cut.0 ∙ ap (λ r. r ∷ ends_behind r) (sym cut.2)) c.loop-behind.invariant.ends;
      text = search rules;
    }

pub returns : goal.returns
returns c =
    let rest = c.loop-behind.rest.now in
    let whole = rw c.in_default.is at (split_once_first 46 rest c.split_once.result c.split_once.ensures.cases (lit< tt)) in
    no_end_more c.loop-behind.ends.items rest _ (ends_none rest whole) c.loop-behind.invariant.ends
