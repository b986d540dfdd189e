use Rattle.std.proofs.Common.{◌+◌, ◌++◌, ap, sym, ◌∙◌, refl, string_bytes}
use Rattle.session_seats.specs.Reading.{seen_line}
use Rattle.session_seats.specs.Said.{Said}
use Rattle.session_seats.proofs.Settled.{stands_calm, stands_failed}
use Rattle.session_seats.proofs.settling.say_again.Goals as goal

pub returns-then-said-clause-told : goal.returns-then-said-clause-told
returns-then-said-clause-told g c =
    stands_failed g.P.Pair.opening c.args._floor.now c.args._office.now.list (seen_line c.args._line.now) c.args.said.now c.args.latest.now c.said.inside.number (string_bytes c.args.into.now) (string_bytes c.push_str.new.self)
    c.args.counted.now (c.args.counted.now + 1) c.requires.floor c.requires.above c.requires.later c.requires.below c.requires.said
    (c.in_ok-push_str.ensures.bytes ∙ ap (λ (s : Said). string_bytes c.args.into.now ++ s.text) c.said.view_is) (ap (λ (s : Said). s.number) c.said.view_is) refl

pub returns-else-said-clause-told : goal.returns-else-said-clause-told
returns-else-said-clause-told g c =
    stands_calm g.P.Pair.opening c.args._floor.now c.args._office.now.list (seen_line c.args._line.now) c.args.said.now c.args.latest.now c.said.inside.number (string_bytes c.args.into.now) (string_bytes c.push_str.new.self)
    c.args.counted.now c.args.counted.now c.requires.floor c.requires.above c.requires.later c.requires.below c.requires.said
    (c.in_ok-push_str.ensures.bytes ∙ ap (λ (s : Said). string_bytes c.args.into.now ++ s.text) c.said.view_is) (ap (λ (s : Said). s.number) c.said.view_is)
    (ap (λ (s : Said). s.failed) (sym c.said.view_is) ∙ c.if-said.false) refl
