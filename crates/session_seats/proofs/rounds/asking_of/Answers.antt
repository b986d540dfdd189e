use Rattle.std.proofs.Common.{◌≡◌, ◌<◌, ◌∙◌, ℕ, List, length, get_or, not, true, false, ap, refl, arith, rules}
use Rattle.session_seats.specs.Seats.{asks_at}
use Rattle.session_seats.proofs.Dealt.{turn_asks, one_more_asks, one_more_none}
use Rattle.session_seats.proofs.rounds.asking_of.Goals.{then-not-passed_over+in_ok-push, else-not-passed_over}
use Rattle.session_seats.proofs.rounds.asking_of.Goals as goal

pub loop-turn-preserved : goal.loop-turn-preserved
loop-turn-preserved g c =
    let place : ℕ = get_or c.dealt-dealt.result.now c.loop-turn.turn 0 in
    let inside : c.loop-turn.turn < length c.dealt-dealt.result.now = c.loop-turn-test.true in
    let within : c.loop-turn.turn < length c.args.lines.now.dealt = omega (arith, inside, ap length c.dealt-dealt.ensures.value) in
    let there : place ≡ get_or c.args.lines.now.dealt c.loop-turn.turn 0 = ap (λ (l : List ℕ). get_or l c.loop-turn.turn 0) c.dealt-dealt.ensures.value in
    let asks : asks_at c.args.lines.now.reads place ≡ not c.passed_over.result =
    turn_asks c.args.lines.now c.args.desks.now c.loop-turn.turn c.index-desks-turn.result place c.passed_over.result c.requires.some c.requires.seats c.requires.passed c.requires.going within
    c.index-desks-turn.is there c.passed_over.ensures in
    elim c.if-not-passed_over.branch [
      | then-not-passed_over+in_ok-push w ↦
          let none : c.passed_over.result ≡ false = search rules in
          ap (λ v. v.items) w.asking-is
          ∙ one_more_asks c.args.lines.now.reads c.dealt-dealt.result.now c.loop-turn.asking.items w.push.new.self.items c.loop-turn.turn place inside refl (asks ∙ ap not none) c.loop-turn.invariant w.in_ok-push.ensures.items
      | else-not-passed_over w ↦
          let over : c.passed_over.result ≡ true = search rules in
          ap (λ v. v.items) w.asking-is
          ∙ one_more_none c.args.lines.now.reads c.dealt-dealt.result.now c.loop-turn.asking.items c.loop-turn.turn place inside refl (asks ∙ ap not over) c.loop-turn.invariant
    ]
