use Rattle.std.proofs.Common.{◌<◌, length, arith}
use Rattle.abp_compile.proofs.Taken.{both_ok, joined_list}
use Rattle.abp_compile.proofs.groups.Groups.join.Goals as goal

pub returns-clause-list : goal.returns-clause-list
returns-clause-list c =
    let vector = c.args.self.now.list in
    let less : c.args.place < length vector.items = omega (arith, c.requires, vector.ok.0) in
    both_ok c.join.result c.join.ensures.lines c.join.ensures.domains (λ lines domains none.
    joined_list c.args.self.now.list.items c.args.place c.index_mut.result.now c.join.new.self c.args.line c.args.domain less c.index_mut.ensures.value c.join.ensures.filter lines domains none)
