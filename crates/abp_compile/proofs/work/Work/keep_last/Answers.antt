use Rattle.std.proofs.Common.{List, ℕ, sym, subst}
use Rattle.std.specs.Prelude.{Option}
use Rattle.rule_spec.specs.IsRule.{IsRule}
use Rattle.abp_parse.specs.Seen.{filter_seen}
use Rattle.abp_compile.specs.Seen.{rule_with}
use Rattle.abp_compile.proofs.work.Work.keep_last.Goals as goal

pub rule_of-requires : goal.rule_of-requires
rule_of-requires c =
    subst (λ (hosts : Option (List (List ℕ))). IsRule (rule_with c.args.id (filter_seen c.args.standing.filter) hosts c.args.effect c.args.initiators)) (sym c.in_ok-hosts.ensures) c.requires
