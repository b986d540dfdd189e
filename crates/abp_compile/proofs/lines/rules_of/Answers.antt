use Rattle.std.proofs.Common.{[], List, map, reverse, sym, ap, ◌∙◌, subst}
use Rattle.std.specs.Prelude.{All}
use Rattle.std.specs.List.{flat_map}
use Rattle.std.proofs.lemmas.List.{reverse-reverse}
use Rattle.compile_spec.specs.Compiled.{drafts_of}
use Rattle.abp_compile.specs.declared.groups.Group.{Group}
use Rattle.abp_compile.specs.Groups.{told, standing_of}
use Rattle.abp_compile.specs.Seen.{standing_seen}
use Rattle.abp_compile.specs.Work.{GivesAllRules}
use Rattle.abp_compile.proofs.Stands.{first_gives, later_give, next_drafts}
use Rattle.abp_compile.proofs.lines.rules_of.Goals as goal

pub loop-group-init : goal.loop-group-init
loop-group-init c =
    let same = ap reverse c.reverse.ensures.items ∙ reverse-reverse c.into_list-list.result.items ∙ c.into_list-list.ensures in
    record {
      held = ([], record { counted = c.new-work.ensures.counted; rules = c.new-work.ensures.rules; origins = c.new-work.ensures.origins }, ap (flat_map (λ (group : Group). drafts_of (standing_of (told group)))) same);
      rules = subst (λ (l : List Group). All GivesAllRules (map (λ (group : Group). standing_of (told group)) l)) (sym same) c.requires;
    }

pub add-requires : goal.add-requires
add-requires c =
    subst GivesAllRules (sym c.in_ok-standing.ensures) (first_gives c.loop-group.list.items c.pop.new.self.items c.in-Some.group c.in-Some.ensures.items c.loop-group.invariant.rules)

pub loop-group-preserved : goal.loop-group-preserved
loop-group-preserved c = record {
  held = next_drafts c.loop-group.list.items c.pop.new.self.items c.in-Some.group c.loop-group.work c.add.new.self (standing_seen c.in_ok-standing.standing) _ c.in-Some.ensures.items c.in_ok-standing.ensures c.in_ok-add.ensures c.loop-group.invariant.held;
  rules = later_give c.loop-group.list.items c.pop.new.self.items c.in-Some.group c.in-Some.ensures.items c.loop-group.invariant.rules;
}
