-- The rules that stay when those of some ids are removed.
use Rattle.std.proofs.Common.{◌≡◌, ℕ, List, subst}
use Rattle.rule_spec.specs.Rule.{Rule}
use Rattle.update_spec.specs.Update.{without_ids}
use Rattle.update_spec.specs.Judge.{first_duplicate}
use Rattle.update_spec.specs.declared.refusal.Refusal.{Refusal}
use Rattle.ruleset_store.specs.Seen.{IsRefusalOf}
use Rattle.ruleset_store.specs.Tests.{id_test}

-- a refusal by the rules that stay is one by those whose ids are not among the ones to remove
pub refused_so : (remove : List ℕ) (add rules kept : List Rule) (r : Refusal) → kept ≡ without_ids remove rules → IsRefusalOf (id_test kept add) r
    → IsRefusalOf (first_duplicate remove add rules) r
refused_so remove add rules kept r same is = subst (λ (kept : List Rule). IsRefusalOf (id_test kept add) r) same is
