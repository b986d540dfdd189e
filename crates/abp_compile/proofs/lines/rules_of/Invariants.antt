use Rattle.std.proofs.Common.{◌≡◌, ◌++◌, map, reverse, length, List}
use Rattle.std.specs.Prelude.{All}
use Rattle.std.specs.List.{flat_map}
use Rattle.compile_spec.specs.Compiled.{Draft, drafts_of}
use Rattle.abp_compile.specs.Groups.{told, standing_of}
use Rattle.abp_compile.specs.Work.{HasDrafts, GivesAllRules}
use Rattle.abp_compile.proofs.lines.rules_of.Given as goal

abbrev pub invariant-loop-group : goal.invariant-loop-group
invariant-loop-group l = record {
  held : (held : List Draft) × HasDrafts l.work held × (held ++ flat_map (λ group. drafts_of (standing_of (told group))) (reverse l.list.items) ≡ flat_map (λ group. drafts_of (standing_of (told group))) l.fn.groups.list.items);
  rules : All GivesAllRules (map (λ group. standing_of (told group)) (reverse l.list.items));
}

abbrev pub decreases-loop-group : goal.decreases-loop-group
decreases-loop-group l = length l.list.items
