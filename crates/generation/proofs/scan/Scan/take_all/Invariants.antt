use Rattle.std.proofs.Common.{◌≡◌, ◌≤◌, ◌+◌, ◌++◌, drop}
use Rattle.generation.specs.Hits.{pairs_in}
use Rattle.generation.specs.Kept.{kept_from}
use Rattle.generation.proofs.scan.Scan.take_all.Given as goal

abbrev pub invariant-loop-age : goal.invariant-loop-age
invariant-loop-age g l =
    (kept_from l.self.suffixes l.self.request 0 l.extensions ≡ l.kepts.items ++ kept_from l.self.suffixes l.self.request l.age (drop l.age l.extensions))
    × (g.H.RegexHost.faults l.host ≡ g.H.RegexHost.faults l.fn.host)
    × (l.steps + pairs_in (drop l.age l.extensions) l.self.request ≤ l.fn.steps + pairs_in l.extensions l.self.request)
