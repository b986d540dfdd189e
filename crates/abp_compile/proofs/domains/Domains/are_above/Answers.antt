use Rattle.std.proofs.Common.{◌∙◌, sym, not}
use Rattle.std.specs.BTreeSet.{contains_text}
use Rattle.dnr_spec.specs.Hosts.{is_ip_host}
use Rattle.domain_set.specs.Rests.{some_rest}
use Rattle.abp_compile.proofs.Under.{above, and_true, and_no}
use Rattle.abp_compile.proofs.domains.Domains.are_above.Goals as goal

pub returns-then-has_rest : goal.returns-then-has_rest
returns-then-has_rest c =
    let domain = c.args.domain.now in
    let set = c.args.self.now in
    cc (
      above set.table set.list.items domain c.requires,
      and_true (some_rest (contains_text set.table) domain) (not (is_ip_host domain)) (sym c.has_rest.ensures ∙ c.if-has_rest.true),
      c.is_ip_host.ensures,
    )

pub returns-else-has_rest : goal.returns-else-has_rest
returns-else-has_rest c =
    let domain = c.args.domain.now in
    let set = c.args.self.now in
    cc (
      above set.table set.list.items domain c.requires,
      and_no (some_rest (contains_text set.table) domain) (not (is_ip_host domain)) (sym c.has_rest.ensures ∙ c.if-has_rest.false),
      c.if-has_rest.false,
    )
