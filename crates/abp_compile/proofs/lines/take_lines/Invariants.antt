use Rattle.std.proofs.Common.{◌≡◌, ◌≤◌, ◌+◌, length}
use Rattle.abp_compile.specs.Groups.{AreFound}
use Rattle.abp_compile.proofs.Asking.{WasAsked}
use Rattle.abp_compile.proofs.Walk.{IsAt}
use Rattle.abp_compile.proofs.lines.take_lines.Given as goal

abbrev pub invariant-lines : goal.invariant-lines
invariant-lines g l = record {
  at : IsAt l.lines l.rest l.number l.taken.groups l.taken.reported.items;
  found : AreFound l.taken.groups;
  short : l.number + length l.rest ≤ length l.lines + 1;
  asked : WasAsked g.H.RegexHost.asks l.fn.host l.lines l.rest l.host;
  calm : g.H.RegexHost.faults l.host ≡ g.H.RegexHost.faults l.fn.host;
}

abbrev pub decreases-lines : goal.decreases-lines
decreases-lines g l = length l.rest
