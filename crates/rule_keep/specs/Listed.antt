-- The records of a file, read one after the other.
use Rattle.std.specs.Prelude.{◌≡◌, ℕ, ◌≤◌, true, List, ◌++◌, length, drop}
use Rattle.rule_spec.specs.State.{State}
use Rattle.update_spec.specs.Update.{Update}
use Rattle.ruleset_store.specs.declared.update.Update as held
use Rattle.ruleset_store.specs.Seen.{updates_seen}
use Rattle.keep_records.specs.Records.{stands, payload_of, payloads, span, end_of}
use Rattle.keep_spec.specs.Kept.{kept, start, state_of, all_accepted}
use Rattle.keep_spec.specs.Agrees.{AreRead}

-- the record that stands at a place has this payload
pub record ReadNext (bytes : List ℕ) (at : ℕ) (payload : List ℕ) : Type 0 where
  pub is : stands (drop at bytes) ≡ true
  pub payload_is : payload ≡ payload_of (drop at bytes)

-- so many bytes were read, and the payloads of their records are these updates
pub record ReadSoFar (name bytes : List ℕ) (list : List Update) (at : ℕ) (store : State) : Type 0 where
  pub all : List (List ℕ)
  pub all_is : payloads bytes ≡ all ++ payloads (drop at bytes)
  pub place_is : at ≡ span all
  pub read : AreRead name all list
  pub store_is : store ≡ state_of name list
  pub accepted : all_accepted (start name) list ≡ true
  pub within : at ≤ length bytes

-- all was read: each payload is an update of the extension and accepted after those before it, the records end at this
-- place, and this state is left
pub record IsFound (name bytes : List ℕ) (place : ℕ) (store : State) : Type 0 where
  pub read : AreRead name (payloads bytes) (kept name bytes)
  pub place_is : place ≡ end_of bytes
  pub store_is : store ≡ state_of name (kept name bytes)
  pub accepted : all_accepted (start name) (kept name bytes) ≡ true

-- what a file held, and what was added since then
abbrev pub list_of : List ℕ → List ℕ → List held.Update → List Update
list_of name base added = kept name base ++ updates_seen added
