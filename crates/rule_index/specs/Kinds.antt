-- Keys by their kind.
use Rattle.std.specs.Prelude.{ℕ, List}
use Rattle.index_spec.specs.declared.key.Key.{Key}
use Rattle.index_spec.specs.declared.key.Key.TheVariants as key
use Rattle.rule_index.specs.declared.keys.KeyKind.{KeyKind}
use Rattle.rule_index.specs.declared.keys.KeyKind.TheVariants.{Host, Token, Initiator}

abbrev pub key_by : KeyKind → List ℕ → Key
key_by Host text = key.Host text
key_by Token text = key.Token text
key_by Initiator text = key.Initiator text
