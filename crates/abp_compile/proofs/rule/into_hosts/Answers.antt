use Rattle.std.proofs.Common.{subst, Option, Vec, Global}
use Rattle.std.specs.Prelude.{IfSome}
use Rattle.dnr_base.specs.declared.text.Text.{Text}
use Rattle.rule_spec.specs.IsRule.{AreDomains}
use Rattle.abp_compile.proofs.Named.{named_again}
use Rattle.abp_compile.proofs.rule.into_hosts.Goals as goal

pub of_entries-requires : goal.of_entries-requires
of_entries-requires c =
    named_again c.in-Some.hosts.items (subst (λ (hosts : Option (Vec Text Global)). IfSome hosts (λ hosts. AreDomains hosts.items)) c.in-Some.is c.requires)
