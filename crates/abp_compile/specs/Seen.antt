-- The program's types, as those of the definitions.
use Rattle.std.specs.Prelude.{ℕ, List, [], ◌∷◌, map, Option, option_map}
use Rattle.abp_parse.specs.Seen.{filter_seen}
use Rattle.list_spec.specs.LineKind.{FilterLine}
use Rattle.rule_spec.specs.Rule.{Rule}
use Rattle.compile_spec.specs.Initiators as spec_initiators
use Rattle.compile_spec.specs.Compiled as spec
use Rattle.abp_compile.specs.Parted.{in_common, parted}
use Rattle.abp_compile.specs.declared.effects.Effect.{Effect}
use Rattle.abp_compile.specs.declared.effects.Effect.TheVariants.{Blocks, Allows, Exempts}
use Rattle.abp_compile.specs.declared.effects.Effects.{Effects}
use Rattle.abp_compile.specs.declared.effects.Effects.TheVariants.{Nothing, One, Both}
use Rattle.abp_compile.specs.declared.groups.Standing.{Standing}
use Rattle.abp_compile.specs.declared.initiators.Initiators.{Initiators}
use Rattle.abp_compile.specs.declared.initiators.Parted.{Parted}

abbrev pub effect_seen : Effect → spec.Effect
effect_seen Blocks = spec.blocks
effect_seen Allows = spec.allows
effect_seen Exempts = spec.exempts

abbrev pub effects_seen : Effects → List spec.Effect
effects_seen Nothing = []
effects_seen (One effect) = effect_seen effect ∷ []
effects_seen (Both first second) = effect_seen first ∷ effect_seen second ∷ []

abbrev pub initiators_seen : Initiators → spec_initiators.Initiators
initiators_seen initiators = record { among = initiators.among; not_among = initiators.not_among }

-- those of the rule besides the rules of single domains, if there is one
abbrev pub in_common_of : Parted → List spec_initiators.Initiators
in_common_of domains = in_common domains.excluded.items domains.others.items domains.nested.items

-- those of all rules that an effect has
abbrev pub parted_seen : Parted → List spec_initiators.Initiators
parted_seen domains = parted domains.excluded.items domains.others.items domains.nested.items

-- those of the rules of single domains
abbrev pub singles_of : Parted → List spec_initiators.Initiators
singles_of domains = map (spec_initiators.single domains.excluded.items) domains.nested.items

abbrev pub standing_seen : Standing → spec.Standing
standing_seen standing =
    record { lines = standing.lines; filter = filter_seen standing.filter; hosts = option_map (λ hosts. hosts.items) standing.hosts }

-- the rule of a filter and these hosts, for these initiators
abbrev pub rule_with : ℕ → FilterLine → Option (List (List ℕ)) → Effect → Initiators → Rule
rule_with id filter hosts effect initiators =
    spec.rule_of id (record {
      standing = record { lines = []; filter = filter; hosts = hosts };
      effect = effect_seen effect;
      initiators = initiators_seen initiators;
    })
