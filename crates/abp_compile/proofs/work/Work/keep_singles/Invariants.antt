use Rattle.std.proofs.Common.{◌≡◌, ◌+◌, map, take}
use Rattle.compile_spec.specs.Initiators.{single}
use Rattle.abp_compile.specs.Seen.{effect_seen, standing_seen}
use Rattle.abp_compile.specs.Work.{drafts, Keeps}
use Rattle.abp_compile.proofs.work.Work.keep_singles.Given as goal

abbrev pub invariant-loop-domain : goal.invariant-loop-domain
invariant-loop-domain l = record {
  next : l.id ≡ l.first + l.domain-index;
  count : l.self.count ≡ l.fn.self.count;
  kept : Keeps l.first (drafts (standing_seen l.standing) (effect_seen l.effect) (map (single l.domains.excluded.items) (take l.domain-index l.domains.nested.items))) l.fn.self l.self;
}
