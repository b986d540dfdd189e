use Rattle.std.proofs.Common.{◌≡◌, ◌≤◌}
use Rattle.regex_host.specs.Asked.{AsksFor}
use Rattle.rule_read.specs.Asking.{asked_of_all}
use Rattle.rule_read.specs.Reading.{Taken}
use Rattle.rule_read.proofs.ReadLists.{IsReadSoFar}
use Rattle.rule_read.proofs.rules.read_list.Given as goal

abbrev pub invariant-loop-value : goal.invariant-loop-value
invariant-loop-value g l = record {
  taken : Taken l.taken l.rules.items;
  so_far : IsReadSoFar l.kind l.values l.rules.items l.value-index;
  asked : AsksFor g.H.RegexHost.asks l.fn.host (asked_of_all l.rules.items) l.host;
  calm : g.H.RegexHost.faults l.host ≡ g.H.RegexHost.faults l.fn.host;
  later : g.H.RegexHost.faults l.fn.host ≤ g.H.RegexHost.faults l.host;
}
