-- Why a text is not read: it is no pattern of values, or it is one and memory ran out.
use Rattle.std.specs.Prelude.{◌≡◌, ℕ, List, true, false}
use Rattle.dnr_spec.specs.HeaderTests.{is_value_pattern}
use Rattle.dnr_spec.specs.declared.value_refusal.ValueRefusal.{ValueRefusal}
use Rattle.dnr_spec.specs.declared.value_refusal.ValueRefusal.TheVariants.{BadValuePattern, NoMemory}

abbrev pub IsRefused : List ℕ → ValueRefusal → Type 0
IsRefused text BadValuePattern = is_value_pattern text ≡ false
IsRefused text NoMemory = is_value_pattern text ≡ true
