use Rattle.std.proofs.Common.{◌∙◌, List, codes, refl, ap, arith}
use Rattle.dnr_base.specs.declared.rank.Rank.TheVariants.{Session, Dynamic}
use Rattle.rule_segments.specs.Segments.{live_among}
use Rattle.rule_spec.specs.Rule.{Rule}
use Rattle.rule_spec.specs.State.{live_with}
use Rattle.generation.specs.Block.{added_to}
use Rattle.generation.specs.Hits.{pairs_by}
use Rattle.generation.specs.Refused.{IsPattern}
use Rattle.generation.proofs.Pairs.{lives_add}
use Rattle.generation.proofs.Walked.{ends_in, ends_on, first_pattern, second_pattern}
use Rattle.generation.proofs.scan.Scan.take_added.Goals as goal

pub returns-in-Ok-clause-ends : goal.returns-in-Ok-clause-ends
returns-in-Ok-clause-ends g c =
    let extension = c.args.extension.now in
    let session = live_with Session (codes "_session") (live_among c.segments-session.result.now) in
    let dynamic = live_with Dynamic (codes "_dynamic") (live_among c.segments-dynamic.result.now) in
    ends_in (IsPattern c.in-Ok.kept.name dynamic) (IsPattern c.args.kept.name (added_to extension)) (g.H.RegexHost.faults c.take_segments.new.host)
    (g.H.RegexHost.faults c.args.host.now) (g.H.RegexHost.faults c.take_segments-in-Ok.new.host) c.take_segments-in-Ok.result c.in-Ok.ensures.ends
    (second_pattern c.args.self.now.suffixes c.args.self.now.request c.args.kept c.in-Ok.kept session dynamic
    (live_with Session (codes "_session") extension.session) (live_with Dynamic (codes "_dynamic") extension.dynamic) c.in-Ok.ensures.kept
    (ap (λ (rules : List Rule). live_with Dynamic (codes "_dynamic") rules) (c.segments-dynamic.ensures.live ∙ c.dynamic.ensures)))
    c.take_segments-in-Ok.ensures.ends

pub returns-in-Err-clause-ends : goal.returns-in-Err-clause-ends
returns-in-Err-clause-ends g c =
    let extension = c.args.extension.now in
    let session = live_with Session (codes "_session") (live_among c.segments-session.result.now) in
    ends_on (IsPattern c.args.kept.name session) (IsPattern c.args.kept.name (added_to extension)) (g.H.RegexHost.faults c.args.host.now)
    (g.H.RegexHost.faults c.args.host.now) (g.H.RegexHost.faults c.take_segments.new.host) c.in-Err.refusal refl
    (first_pattern c.args.kept.name session (live_with Session (codes "_session") extension.session) (live_with Dynamic (codes "_dynamic") extension.dynamic)
    (ap (λ (rules : List Rule). live_with Session (codes "_session") rules) (c.segments-session.ensures.live ∙ c.session.ensures)))
    c.in-Err.ensures.ends

pub returns-in-Ok-clause-bound : goal.returns-in-Ok-clause-bound
returns-in-Ok-clause-bound g c =
    let extension = c.args.extension.now in
    let request = c.args.self.now.request in
    let both = lives_add (live_with Session (codes "_session") extension.session) (live_with Dynamic (codes "_dynamic") extension.dynamic) request in
    let session = ap (λ (rules : List Rule). pairs_by (live_with Session (codes "_session") rules) request) (c.segments-session.ensures.live ∙ c.session.ensures) in
    let dynamic = ap (λ (rules : List Rule). pairs_by (live_with Dynamic (codes "_dynamic") rules) request) (c.segments-dynamic.ensures.live ∙ c.dynamic.ensures) in
    omega (arith, both, session, dynamic, c.in-Ok.ensures.bound, c.take_segments-in-Ok.ensures.bound)

pub returns-in-Err-clause-bound : goal.returns-in-Err-clause-bound
returns-in-Err-clause-bound g c =
    let extension = c.args.extension.now in
    let request = c.args.self.now.request in
    let both = lives_add (live_with Session (codes "_session") extension.session) (live_with Dynamic (codes "_dynamic") extension.dynamic) request in
    let session = ap (λ (rules : List Rule). pairs_by (live_with Session (codes "_session") rules) request) (c.segments-session.ensures.live ∙ c.session.ensures) in
    omega (arith, both, session, c.in-Err.ensures.bound)
