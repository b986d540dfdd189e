use Rattle.std.proofs.Common.{◌++◌, List, [], ◌∷◌, map, take, get_or, sym, ap, ◌∙◌, append_assoc}
use Rattle.hide_spec.specs.HidingLine.{HidingLine}
use Rattle.hide_rules.specs.Listings.{lines_at}
use Rattle.hide_rules.specs.Seen.{hiding_seen, lines_seen}
use Rattle.hide_rules.proofs.Filed.{places_next}
use Rattle.hide_rules.proofs.candidates.push_lines.Goals as goal

pub loop-place-preserved : goal.loop-place-preserved
loop-place-preserved c =
    let lines : List HidingLine = map hiding_seen c.args.lines.now in
    c.in_ok-push_line.ensures
    ∙ ap (λ (t : List HidingLine). t ++ lines_at lines (get_or c.args.places.now c.loop-place.place-index 0 ∷ [])) c.loop-place.invariant
    ∙ append_assoc (lines_seen c.args.found.now.items) (lines_at lines (take c.loop-place.place-index c.args.places.now)) (lines_at lines (get_or c.args.places.now c.loop-place.place-index 0 ∷ []))
    ∙ ap (λ (t : List HidingLine). lines_seen c.args.found.now.items ++ t) (sym (places_next lines c.args.places.now c.loop-place.place-index 0 c.loop-place-test.true))
