use Rattle.std.proofs.Common.{◌≡◌, ◌<◌, ◌+◌, ◌++◌, ◌∷◌, [], length, refl, ap, sym, ◌∙◌, subst, rules, arith}
use Rattle.std.specs.Prelude.{◌||◌}
use Rattle.std.proofs.lemmas.List.{length_push, map_push}
use Rattle.session_rounds.specs.Lines.{read_seen}
use Rattle.session_spec.specs.Rounds.{Held, is_full, is_sync}
use Rattle.session_seats.specs.Reading.{ReadRound, asked_in, dealt_from, held_with, seen_line, seen_lines}
use Rattle.session_seats.proofs.Desks.{has_room, stays_bounded, bounded_on, dealt_on, asked_more, holds_line, ends_line}
use Rattle.session_seats.proofs.round_lines.RoundLines.take.Goals as goal

pub overflow_add-self : goal.overflow_add-self
overflow_add-self c =
    let space : (length c.self.inside.lines.items < 1024) × (c.self.inside.bytes < 8388608) = has_room c.args.self.now _ c.self.view_is c.requires.open in
    omega (arith, space.1, c.requires.short)

pub invariant_of-self : goal.invariant_of-self
invariant_of-self c =
    (c.self.invariant.0, c.self.invariant.1, c.self.invariant.2, c.in_err-reserve.ensures.items ∙ c.self.invariant.3)

pub invariant_of-self-in_err-push : goal.invariant_of-self-in_err-push
invariant_of-self-in_err-push c =
    let bounded = stays_bounded c.self.inside.lines.items c.push.new.self.items c.self.inside.bytes c.args.bytes c.in_err-push.ensures.items
    (has_room c.args.self.now _ c.self.view_is c.requires.open) c.requires.short c.self.invariant.2 in
    (bounded.0, bounded.1, bounded.2, c.in_ok-reserve.ensures.items ∙ c.self.invariant.3 ∙ ap (dealt_from 0) (sym c.in_err-push.ensures.items))

pub invariant_of-self-2 : goal.invariant_of-self-2
invariant_of-self-2 c =
    let bounded = bounded_on c.self.inside.lines.items c.push.new.self.items c.args.line c.self.inside.bytes c.args.bytes c.in_ok-push.ensures.items
    (has_room c.args.self.now _ c.self.view_is c.requires.open) c.requires.short c.requires.within c.self.invariant.2 in (
      bounded.0,
      bounded.1,
      bounded.2,
      dealt_on c.self.inside.lines.items c.push.new.self.items c.args.line c.reserve.new.self.items c.mark.new.dealt.items c.len-place.result c.is_dealt-is_dealt.result c.in_ok-push.ensures.items
          (c.in_ok-reserve.ensures.items ∙ c.self.invariant.3) (search rules) c.is_dealt-is_dealt.ensures c.mark.ensures,
    )

pub returns-clause-held : goal.returns-clause-held
returns-clause-held c =
    let was : Held = record { lines = length c.self.inside.lines.items; bytes = c.self.inside.bytes; asked = asked_in (seen_lines c.self.inside.lines.items) } in
    let now : Held = record { lines = length c.push.new.self.items; bytes = c.self.inside.bytes + c.args.bytes; asked = asked_in (seen_lines c.push.new.self.items) } in
    let longer = ap length c.in_ok-push.ensures.items ∙ length_push c.self.inside.lines.items c.args.line in
    let asked = ap (λ ls. asked_in (seen_lines ls)) c.in_ok-push.ensures.items ∙ ap asked_in (map_push seen_line c.self.inside.lines.items c.args.line) ∙ asked_more (seen_lines c.self.inside.lines.items) (seen_line c.args.line) in
    subst (λ (round : ReadRound). now ≡ held_with round.held c.args.bytes (seen_line c.args.line)) c.self.view_is (holds_line was now (seen_line c.args.line) c.args.bytes longer refl asked)

pub returns-clause-ends : goal.returns-clause-ends
returns-clause-ends c =
    let was : Held = record { lines = length c.self.inside.lines.items; bytes = c.self.inside.bytes; asked = asked_in (seen_lines c.self.inside.lines.items) } in
    let longer = ap length c.in_ok-push.ensures.items ∙ length_push c.self.inside.lines.items c.args.line in
    let grown : c.len.result ≡ length c.self.inside.lines.items + 1 = omega (arith, c.len.ensures, c.push.new.self.ok.0, longer) in
    subst (λ (round : ReadRound). c.ends.result ≡ (is_sync (read_seen (seen_line c.args.line).read) || is_full (held_with round.held c.args.bytes (seen_line c.args.line)))) c.self.view_is
    (ends_line was (seen_line c.args.line) c.args.bytes c.len.result c.ends.result c.syncs-syncs.result c.ends.ensures c.syncs-syncs.ensures grown)

pub returns-clause-appended : goal.returns-clause-appended
returns-clause-appended c =
    ap seen_lines c.in_ok-push.ensures.items ∙ map_push seen_line c.self.inside.lines.items c.args.line ∙ ap (λ (round : ReadRound). round.reads ++ seen_line c.args.line ∷ []) c.self.view_is
