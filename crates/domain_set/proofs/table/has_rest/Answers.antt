use Rattle.std.proofs.Common.{rules, ◌≡◌, ◌||◌, List, ℕ, Bool, true, false, lit<, sym, ap, ◌∙◌}
use Rattle.std.proofs.lemmas.Str.Pattern.{split_once_first}
use Rattle.domain_set.specs.Rests.{some_rest}
use Rattle.domain_set.specs.Table.{has_text}
use Rattle.domain_set.proofs.Ends.{some_rest-found, some_rest-none}
use Rattle.domain_set.proofs.table.has_rest.Goals as goal

pub returns-then-has_text : goal.returns-then-has_text
returns-then-has_text c =
    let has : List ℕ → Bool = has_text c.args.entries.now in
    let rest = c.loop-behind.rest.now in
    let behind = c.in-Some.behind.now in
    let cut = rw c.in-Some.is at (split_once_first 46 rest c.split_once.result c.split_once.ensures.cases (lit< tt)) in
    let there : has behind ≡ true = sym c.has_text.ensures ∙ c.if-has_text.true in
    sym (c.loop-behind.invariant.same ∙ some_rest-found has rest cut.0 ∙ ap (λ r. has r || some_rest has r) (sym cut.2) ∙ ap (λ t. t || some_rest has behind) there)

pub loop-behind-preserved : goal.loop-behind-preserved
loop-behind-preserved c =
    let has : List ℕ → Bool = has_text c.args.entries.now in
    let rest = c.loop-behind.rest.now in
    let behind = c.in-Some.behind.now in
    let cut = rw c.in-Some.is at (split_once_first 46 rest c.split_once.result c.split_once.ensures.cases (lit< tt)) in
    let absent : has behind ≡ false = sym c.has_text.ensures ∙ c.if-has_text.false in
    record {
      same = c.loop-behind.invariant.same ∙ some_rest-found has rest cut.0 ∙ ap (λ r. has r || some_rest has r) (sym cut.2) ∙ ap (λ t. t || some_rest has behind) absent;
      text = search rules;
    }

pub returns : goal.returns
returns c =
    let has : List ℕ → Bool = has_text c.args.entries.now in
    let rest = c.loop-behind.rest.now in
    let whole = rw c.in_default.is at (split_once_first 46 rest c.split_once.result c.split_once.ensures.cases (lit< tt)) in
    sym (c.loop-behind.invariant.same ∙ some_rest-none has rest whole)
