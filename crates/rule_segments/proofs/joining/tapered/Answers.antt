use Rattle.std.proofs.Common.{◌≡◌, ◌<◌, ◌++◌, ◌∷◌, [], List, length, take, IfOk, sym, ap, ◌∙◌, subst, arith, rules}
use Rattle.std.proofs.lemmas.Slice.{between_to_end}
use Rattle.rule_spec.specs.Rule.{Rule}
use Rattle.rule_segments.specs.Segments.{Segment, live_among, LastIsAbove}
use Rattle.rule_segments.proofs.Tapered.{newest_tapers}
use Rattle.rule_segments.proofs.joining.tapered.Goals as goal

pub tapered_before-requires-2-clause-above : goal.tapered_before-requires-2-clause-above
tapered_before-requires-2-clause-above c =
    let segments = c.args.segments.now in
    let newer = c.args.newer.now in
    let some : 0 < length newer = (let e = c.is_empty.ensures in let f = c.if-is_empty.false in search rules) in
    let live = c.in_ok-newest.ensures.live ∙ ap (λ (s : List Segment). live_among s ++ newer) (between_to_end segments c.in_ok-start.start (length segments) (omega arith)) in
    let is : c.push.new.self.items ≡ c.in_ok-newest.newest ∷ [] = search rules in
    let tapers = newest_tapers segments newer c.in_ok-newest.newest c.in_ok-start.start c.in_ok-start.ensures.within some live c.in_ok-newest.ensures.half c.in_ok-start.ensures.apart in
    subst (LastIsAbove (take c.in_ok-start.start segments)) (sym is) tapers.3

pub returns-clause-same : goal.returns-clause-same
returns-clause-same c =
    let segments = c.args.segments.now in
    let newer = c.args.newer.now in
    let some : 0 < length newer = (let e = c.is_empty.ensures in let f = c.if-is_empty.false in search rules) in
    let live = c.in_ok-newest.ensures.live ∙ ap (λ (s : List Segment). live_among s ++ newer) (between_to_end segments c.in_ok-start.start (length segments) (omega arith)) in
    let is : c.push.new.self.items ≡ c.in_ok-newest.newest ∷ [] = search rules in
    let tapers = newest_tapers segments newer c.in_ok-newest.newest c.in_ok-start.start c.in_ok-start.ensures.within some live c.in_ok-newest.ensures.half c.in_ok-start.ensures.apart in
    let whole = ap (λ (s : List Segment). live_among (take c.in_ok-start.start segments) ++ live_among s) is ∙ tapers.0 in
    subst (λ (all : List Rule). IfOk c.tapered_before-2.result (λ next. live_among next.items ≡ all)) whole c.tapered_before-2.ensures.same
