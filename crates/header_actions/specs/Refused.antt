-- Why a change is not read: the definition refuses it so, or it reads it and memory ran out.
use Rattle.std.specs.Prelude.{◌≡◌, Result, Err}
use Rattle.std.specs.Prelude.{IsOk}
use Rattle.dnr_spec.specs.Headers.{HeaderOp}
use Rattle.dnr_spec.specs.declared.header_refusal.HeaderRefusal.{HeaderRefusal}
use Rattle.dnr_spec.specs.declared.header_refusal.HeaderRefusal.TheVariants.{BadName, BadValue, ValueMissing, ValueGiven, AppendNotAllowed, NoMemory}

abbrev pub IsRefused : Result HeaderOp HeaderRefusal → HeaderRefusal → Type 0
IsRefused read BadName = read ≡ Err BadName
IsRefused read BadValue = read ≡ Err BadValue
IsRefused read ValueMissing = read ≡ Err ValueMissing
IsRefused read ValueGiven = read ≡ Err ValueGiven
IsRefused read AppendNotAllowed = read ≡ Err AppendNotAllowed
IsRefused read NoMemory = IsOk read
