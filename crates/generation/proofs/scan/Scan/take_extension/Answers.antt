use Rattle.std.proofs.Common.{ℕ, List, ap, refl, subst, arith}
use Rattle.rule_spec.specs.State.{live_from, live_rules}
use Rattle.generation.specs.Block.{added_to, lives_in}
use Rattle.generation.specs.Hits.{pairs_by}
use Rattle.generation.specs.Refused.{IsPattern}
use Rattle.generation.proofs.Pairs.{lives_add}
use Rattle.generation.proofs.Walked.{ends_in, ends_on, first_pattern, second_pattern}
use Rattle.generation.proofs.scan.Scan.take_extension.Goals as goal

pub returns-in-Ok-clause-ends : goal.returns-in-Ok-clause-ends
returns-in-Ok-clause-ends g c =
    let extension = c.args.extension.now in
    let start = c.new-kept.result in
    ends_in (IsPattern c.in-Ok.kept.name (lives_in c.of_sets.result)) (IsPattern extension.name (live_rules extension)) (g.H.RegexHost.faults c.take_added.new.host)
    (g.H.RegexHost.faults c.args.host.now) (g.H.RegexHost.faults c.take_block.new.host) c.take_block.result c.in-Ok.ensures.ends
    (λ rule h. subst (λ (n : List ℕ). IsPattern n (live_rules extension) rule) (ap (λ k. k.name) c.new-kept.ensures)
    (second_pattern c.args.self.now.suffixes c.args.self.now.request start c.in-Ok.kept (added_to extension) (lives_in c.of_sets.result) (added_to extension) (live_from 0 extension.sets)
    c.in-Ok.ensures.kept c.of_sets.ensures rule h))
    c.take_block.ensures.ends

pub returns-in-Err-clause-ends : goal.returns-in-Err-clause-ends
returns-in-Err-clause-ends g c =
    let extension = c.args.extension.now in
    let start = c.new-kept.result in
    ends_on (IsPattern start.name (added_to extension)) (IsPattern extension.name (live_rules extension)) (g.H.RegexHost.faults c.args.host.now)
    (g.H.RegexHost.faults c.args.host.now) (g.H.RegexHost.faults c.take_added.new.host) c.in-Err.refusal refl
    (λ rule h. subst (λ (n : List ℕ). IsPattern n (live_rules extension) rule) (ap (λ k. k.name) c.new-kept.ensures)
    (first_pattern start.name (added_to extension) (added_to extension) (live_from 0 extension.sets) refl rule h))
    c.in-Err.ensures.ends

pub returns-in-Ok-clause-bound : goal.returns-in-Ok-clause-bound
returns-in-Ok-clause-bound g c =
    let extension = c.args.extension.now in
    let request = c.args.self.now.request in
    let both = lives_add (added_to extension) (live_from 0 extension.sets) request in
    let sets = ap (λ lives. pairs_by lives request) c.of_sets.ensures in
    omega (arith, both, sets, c.in-Ok.ensures.bound, c.take_block.ensures.bound)

pub returns-in-Err-clause-bound : goal.returns-in-Err-clause-bound
returns-in-Err-clause-bound g c =
    let extension = c.args.extension.now in
    let both = lives_add (added_to extension) (live_from 0 extension.sets) c.args.self.now.request in
    omega (arith, both, c.in-Err.ensures.bound)
