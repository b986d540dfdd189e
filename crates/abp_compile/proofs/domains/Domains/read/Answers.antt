use Rattle.std.proofs.Common.{◌∙◌, [], fold, ap, arith}
use Rattle.std.proofs.lemmas.List.{take_all}
use Rattle.abp_compile.specs.Domains.{with_entry}
use Rattle.abp_compile.proofs.Once.{these}
use Rattle.abp_compile.proofs.domains.Domains.read.Goals as goal

pub returns-clause-list : goal.returns-clause-list
returns-clause-list c =
    let entries = c.args.entries.now in
    c.loop-entry.invariant.list
    ∙ ap (λ list. fold (with_entry c.args.excluded) [] list) (take_all c.loop-entry.entry-index entries (omega arith))
    ∙ these c.args.excluded entries
