-- Why a command stops: from a part that is read to the whole.
use Rattle.std.proofs.Common.{ℕ, ◌+◌, ◌-◌, ◌^◌, ◌≤◌, List, arith, Option, Some, None, sym, subst, inl, inr, ⊎_elim, string_bytes}
use Rattle.std.specs.Prelude.{IfSome, min}
use Rattle.dnr_base.specs.Faults.{Rose}
use Rattle.manifest_read.proofs.Sets.{ends_wider}
use Rattle.load_spec.specs.Extensions.{HoldsSet, BreaksSet, RefusedFile, RefusesExtension}
use Rattle.load_spec.specs.Files.{Files, HoldsLongFile}
use Rattle.load_spec.specs.Manifest.{Resource}
use Rattle.rule_spec.specs.declared.rule_kind.RuleKind.{RuleKind}
use Rattle.session_load.specs.declared.stop.Stop.{Stop}
use Rattle.session_load.specs.declared.stop.Stop.TheVariants as stop
use Rattle.session_load.specs.Loads.{StopsInRules, StopsInList, StopsInOne, StopsInServing}
use Rattle.session_load.specs.Stops.{Prints, StopsAs}
use Rattle.session_spec.specs.Loading.{PrintsRefusedRules, IsRefusedList, PrintsRefusedList, Reads, Refuses, IsTooLong, RefusesFile, HasLongFileIn}
use Rattle.session_spec.specs.Refusals.{ListRefusal, too_many_rules, host_failed}
use Rattle.session_spec.specs.Words.{Installed, folder, list, Serving}

-- ---- one stop

-- a line that is to be written says why
pub printed : (Refused : List ℕ → Type 0) (TooLong : Type 0) (line : List ℕ) (s : Stop) → Prints line s → Refused line → StopsAs Refused TooLong s
printed Refused TooLong line (stop.Refused text) prints refused = subst Refused (sym prints) refused
printed Refused TooLong line stop.ReadFault prints refused = absurd prints
printed Refused TooLong line stop.FileTooLong prints refused = absurd prints
printed Refused TooLong line stop.NoMemory prints refused = tt

pub stops_map : (R S : List ℕ → Type 0) (T U : Type 0) (s : Stop) → ((line : List ℕ) → R line → S line) → (T → U) → StopsAs R T s → StopsAs S U s
stops_map R S T U (stop.Refused text) refused long why = refused (string_bytes text) why
stops_map R S T U stop.ReadFault refused long why = tt
stops_map R S T U stop.FileTooLong refused long why = long why
stops_map R S T U stop.NoMemory refused long why = tt

-- the same for a shelf that may tell what its files hold
pub known_map : (known : Option Files) (R S : Files → List ℕ → Type 0) (T U : Files → Type 0) (s : Stop) → ((files : Files) (line : List ℕ) → R files line → S files line)
    → ((files : Files) → T files → U files) → IfSome known (λ files. StopsAs (R files) (T files) s) → IfSome known (λ files. StopsAs (S files) (U files) s)
known_map None R S T U s refused long why = tt
known_map (Some files) R S T U s refused long why = stops_map (R files) (S files) (T files) (U files) s (refused files) (long files) why

-- ---- where a host failed, by a count that says no less

rules_wider : (files : Files) (A B : Type 0) (kind : RuleKind) (name line : List ℕ) → (A → B) → PrintsRefusedRules files A kind name line → PrintsRefusedRules files B kind name line
rules_wider files A B kind name line wider why = record {
  refusal = why.refusal;
  broken = ⊎_elim (λ broken. inl broken) (λ stops. inr (wider stops.0, stops.1)) why.broken;
  same = why.same;
}

pub stops_in_rules_wider : (known : Option Files) (A B : Type 0) (kind : RuleKind) (name : List ℕ) (s : Stop) → (A → B) → StopsInRules known A kind name s → StopsInRules known B kind name s
stops_in_rules_wider known A B kind name s wider why =
    known_map known (λ files. PrintsRefusedRules files A kind name) (λ files. PrintsRefusedRules files B kind name)
    (λ files. HoldsLongFile files name) (λ files. HoldsLongFile files name) s
    (λ files line r. rules_wider files A B kind name line wider r) (λ files long. long) why

refused_list_wider : (A B : Type 0) (bytes : List ℕ) (refusal : ListRefusal) → (A → B) → IsRefusedList A bytes refusal → IsRefusedList B bytes refusal
refused_list_wider A B bytes (too_many_rules count) wider why = why
refused_list_wider A B bytes (host_failed line) wider why = (wider why.0, why.1)

list_wider : (files : Files) (A B : Type 0) (name line : List ℕ) → (A → B) → PrintsRefusedList files A name line → PrintsRefusedList files B name line
list_wider files A B name line wider why = record {
  refusal = why.refusal;
  cause = record {
    bytes = why.cause.bytes;
    file = why.cause.file;
    refused = refused_list_wider A B why.cause.bytes why.refusal wider why.cause.refused;
  };
  same = why.same;
}

pub stops_in_list_wider : (known : Option Files) (A B : Type 0) (name : List ℕ) (s : Stop) → (A → B) → StopsInList known A name s → StopsInList known B name s
stops_in_list_wider known A B name s wider why =
    known_map known (λ files. PrintsRefusedList files A name) (λ files. PrintsRefusedList files B name)
    (λ files. HoldsLongFile files name) (λ files. HoldsLongFile files name) s
    (λ files line r. list_wider files A B name line wider r) (λ files long. long) why

set_wider : (files : Files) (A B : Type 0) (name : List ℕ) (refused : RefusedFile) (resource : Resource) → (A → B) → BreaksSet files A name refused resource → BreaksSet files B name refused resource
set_wider files A B name refused resource wider why = record {
  refusal = why.refusal;
  broken = ⊎_elim (λ broken. inl broken) (λ stops. inr (wider stops.0, stops.1)) why.broken;
  same = why.same;
}

extension_wider : (files : Files) (A B : Type 0) (name : List ℕ) (refused : RefusedFile) → (A → B) → RefusesExtension files A name refused → RefusesExtension files B name refused
extension_wider files A B name refused wider (inl manifest) = inl manifest
extension_wider files A B name refused wider (inr sets) = inr (record {
  manifest = sets.manifest;
  held = sets.held;
  first = ends_wider (HoldsSet files name) (BreaksSet files A name refused) (BreaksSet files B name refused) sets.manifest.resources (λ resource why. set_wider files A B name refused resource wider why) sets.first;
})

pub one_wider : (files : Files) (A B : Type 0) (line : List ℕ) (installed : Installed) → (A → B) → Refuses files A line installed → Refuses files B line installed
one_wider files A B line (folder name) wider why =
    record { refused = why.refused; cause = extension_wider files A B name why.refused wider why.cause; same = why.same }
one_wider files A B line (list name file) wider why = list_wider files A B file line wider why

pub stops_in_one_wider : (known : Option Files) (A B : Type 0) (installed : Installed) (s : Stop) → (A → B) → StopsInOne known A installed s → StopsInOne known B installed s
stops_in_one_wider known A B installed s wider why =
    known_map known (λ files line. Refuses files A line installed) (λ files line. Refuses files B line installed)
    (λ files. IsTooLong files installed) (λ files. IsTooLong files installed) s
    (λ files line r. one_wider files A B line installed wider r) (λ files long. long) why

file_wider : (files : Files) (A B : Type 0) (serving : Serving) (line : List ℕ) → (A → B) → RefusesFile files A serving line → RefusesFile files B serving line
file_wider files A B serving line wider (inl suffixes) = inl suffixes
file_wider files A B serving line wider (inr ends) = inr (record {
  suffixes = ends.suffixes;
  read = ends.read;
  first = ends_wider (Reads files) (Refuses files A line) (Refuses files B line) serving.installed (λ one why. one_wider files A B line one wider why) ends.first;
})

pub stops_in_serving_wider : (known : Option Files) (A B : Type 0) (serving : Serving) (s : Stop) → (A → B) → StopsInServing known A serving s → StopsInServing known B serving s
stops_in_serving_wider known A B serving s wider why =
    known_map known (λ files. RefusesFile files A serving) (λ files. RefusesFile files B serving)
    (λ files. HasLongFileIn files serving) (λ files. HasLongFileIn files serving) s
    (λ files line r. file_wider files A B serving line wider r) (λ files long. long) why

-- ---- counts of faults

min_grows : (a b end : ℕ) → a ≤ b → min (a + 1) end ≤ min (b + 1) end
min_grows a b end h = omega arith

pub rose_since : (a b now : ℕ) → a ≤ b → Rose b now → Rose a now
rose_since a b now before rose = omega (arith, min_grows a b (2 ^ 64 - 1) before, rose)
