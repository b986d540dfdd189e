use Rattle.std.proofs.Common.{◌≡◌, ◌∷◌, [], map, length, string_bytes, arith}
use Rattle.abp_parse.specs.Seen.{filter_seen}
use Rattle.abp_compile.proofs.Taken.{found_new}
use Rattle.abp_compile.proofs.groups.Groups.begin_at.Goals as goal

pub returns-clause-found : goal.returns-clause-found
returns-clause-found c =
    let vector = c.args.self.now.list in
    let long : c.len.result ≡ length vector.items = omega (arith, c.len.ensures, vector.ok.0) in
    found_new c.args.self.now c.begin.new.self c.insert.new.self
    (record { filter = filter_seen c.args.filter; lines = c.args.line ∷ []; domains = map string_bytes c.push.new.self.items }) c.args.key c.len.result
    c.requires.plain c.requires.key long c.requires.found c.requires.new c.in_ok-insert.ensures.updates c.in_ok-begin.ensures.places c.in_ok-begin.ensures.list
