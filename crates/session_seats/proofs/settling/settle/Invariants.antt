use Rattle.std.proofs.Common.{◌≡◌, ◌≤◌, length, map, string_bytes}
use Rattle.session_laws.specs.Turns.{NoneFell}
use Rattle.session_rounds.proofs.Steps.{SettledTo}
use Rattle.session_seats.specs.Rounds.{AreWithin}
use Rattle.session_seats.specs.Writing.{texts_with}
use Rattle.session_seats.proofs.settling.settle.Given as goal

abbrev pub invariant-loop-place : goal.invariant-loop-place
invariant-loop-place g l = record {
  settled : SettledTo g.P.Pair.opening l.floor l.office.list (length l.desks) l.round.reads (texts_with l.round.lines l.office.texts) l.fn.latest (string_bytes l.fn.into) l.fn.counted
      l.place l.asked l.latest (string_bytes l.into) l.counted;
  few : l.asked ≤ l.place;
  within : AreWithin (length l.floor) (length l.office.list) l.latest;
  latest : length l.latest ≡ length l.desks;
  finders : length l.finders ≡ length l.desks;
  counted : NoneFell l.counted (map g.H.RegexHost.faults l.finders);
  later : NoneFell (map g.H.RegexHost.faults l.fn.finders) (map g.H.RegexHost.faults l.finders);
}
