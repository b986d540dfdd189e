use Rattle.std.proofs.Common.{◌<◌, ◌^◌, ◌-◌, ◌+◌, ◌≡◌, ℕ, List, min, length, refl, sym, ap, subst, arith}
use Rattle.session_seats.specs.Seats.{DeskSeen, HasServed, share}
use Rattle.session_seats.proofs.Desks.{none_answered, turns_on}
use Rattle.session_seats.proofs.Served.{ServesShare, share_begins, share_on, share_served}
use Rattle.session_seats.proofs.desk.DeskToolSeatDeal.work.Goals as goal

pub loop-turn-init : goal.loop-turn-init
loop-turn-init g c = record {
  answers = none_answered g.P.Pair.opening c.args.round.now.reads c.args.self.now c.requires.0;
  share =
      subst (λ (turn : ℕ). ServesShare c.args.round.now.reads c.places-dealt.result.now turn c.args.self.now c.args.self.now) (sym (ap (λ (desk : DeskSeen). desk.seat) c.self.view_is))
      (share_begins c.args.round.now.reads c.places-dealt.result.now c.args.self.now);
  same = ap (λ (desk : DeskSeen). desk.seats) c.self.view_is;
  some = subst (λ (desk : DeskSeen). 0 < desk.seats) (sym c.self.view_is) c.requires.1;
  host = omega arith;
}

pub bounds-dealt-turn : goal.bounds-dealt-turn
bounds-dealt-turn g c = c.loop-turn-test.true

pub serve-requires : goal.serve-requires
serve-requires g c = c.loop-turn.invariant.answers

pub loop-turn-smaller : goal.loop-turn-smaller
loop-turn-smaller g c =
    turns_on (length c.places-dealt.result.now) c.loop-turn.turn c.self.inside.seats c.saturating_add-turn.result c.loop-turn-test.true c.places-dealt.type_inv.0 c.loop-turn.invariant.some c.saturating_add-turn.ensures

pub loop-turn-preserved : goal.loop-turn-preserved
loop-turn-preserved g c =
    let inv = c.loop-turn.invariant in
    let fits = c.places-dealt.type_inv.0 in
    record {
      answers = c.serve.ensures.answers;
      share =
          share_on c.args.round.now.reads c.places-dealt.result.now c.loop-turn.turn (2 ^ 64 - 1) c.saturating_add-turn.result _ c.args.self.now c.loop-turn.self c.serve.new.self
          (subst (λ (n : ℕ). 0 < n) inv.same inv.some) c.loop-turn-test.true (omega (arith, fits))
          (subst (λ (n : ℕ). c.saturating_add-turn.result ≡ min (c.loop-turn.turn + n) (2 ^ 64 - 1)) inv.same c.saturating_add-turn.ensures) refl c.serve.ensures.served inv.share;
      same = inv.same;
      some = inv.some;
      host = omega (arith, c.serve.ensures.host, inv.host);
    }

pub returns-clause-worked : goal.returns-clause-worked
returns-clause-worked g c =
    let inv = c.loop-turn.invariant in
    record {
      answered = inv.answers;
      served =
          subst (λ (dealt : List ℕ). HasServed c.args.round.now.reads (share c.args.self.now.seats c.args.self.now.seat dealt) c.args.self.now c.loop-turn.self) c.places-dealt.ensures
          (share_served c.args.round.now.reads c.places-dealt.result.now c.loop-turn.turn c.args.self.now c.loop-turn.self c.loop-turn-test.false inv.share);
    }

pub returns-clause-used : goal.returns-clause-used
returns-clause-used g c = c.loop-turn.invariant.host
