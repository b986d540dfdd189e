-- The last member of a name: how often the name comes in an object, and where its last value stands.
use Rattle.std.specs.Prelude.{◌≡◌, ℕ, ◌+◌, ◌-◌, ◌<◌, ◌≤◌, List, length, Bool, true, false, Option, Some, None}
use Rattle.std.specs.Str.{bytes_eq}
use Rattle.json.specs.Token.{Token}
use Rattle.json.specs.Json as json
use Rattle.json.specs.Json.{parse_map}
use Rattle.serde_json.specs.Data.{Data, array, object, Members, no_members, put}
use Rattle.serde_json.specs.Find.{as_array, as_object, get_member}
use Rattle.serde_json.specs.Read.{of_json, of_items, of_members, converted}

abbrev pub one_if : Bool → ℕ
one_if true = 1
one_if false = 0

-- how many members have the name
abbrev pub times : List ℕ → json.Members → ℕ
times name json.no_members = 0
times name (json.member k j js) = one_if (bytes_eq k name) + times name js

-- the next value, and the tokens behind it
abbrev pub value_at : ℕ → List Token → Option (Data × List Token)
value_at depth ts = converted of_json (json.value depth ts)

-- the members up to the brace that closes their object, behind some that were found; `n` bounds their count
abbrev pub members_at : ℕ → Members → ℕ → List Token → Option (Members × List Token)
members_at depth found n ts = converted (λ ms. of_members ms found) (json.members (json.value depth) n ts)

-- the members of an object, behind its brace
abbrev pub members_in : ℕ → List Token → Option (Members × List Token)
members_in depth ts = members_at depth no_members (length ts) ts

-- so many of the members have the name
pub record HasTimes (depth : ℕ) (name : List ℕ) (ts : List Token) (n : ℕ) : Type 0 where
  pub all : json.Members
  pub rest : List Token
  pub are : json.members (json.value depth) (length ts) ts ≡ Some (all, rest)
  pub count : times name all ≡ n

-- none of the members has the name
pub record HasNone (depth : ℕ) (name : List ℕ) (ts : List Token) : Type 0 where
  pub n : ℕ
  pub all : json.Members
  pub rest : List Token
  pub enough : length ts ≤ n
  pub are : json.members (json.value depth) n ts ≡ Some (all, rest)
  pub count : times name all ≡ 0

-- here stands the value of the last member of the name
pub record IsLast (depth : ℕ) (name : List ℕ) (ts here : List Token) : Type 0 where
  pub n : ℕ
  pub found : Members
  pub goes : (d : Data) (r : List Token) → value_at depth here ≡ Some (d, r) → members_in depth ts ≡ members_at depth (put name d found) n r
  pub enough : (r : List Token) → length r ≤ length here → length r ≤ n
  pub none : (d : Data) (r : List Token) → value_at depth here ≡ Some (d, r) → length r ≤ length here → HasNone depth name r
  pub breaks : value_at depth here ≡ None → members_in depth ts ≡ None

-- the members up to the brace leave what is found at the name
abbrev pub Leaves : ℕ → List ℕ → List Token → List Token → Type 0
Leaves depth name ts rest = (found : Members) (n : ℕ) → length ts ≤ n → (ms : Members) × (members_at depth found n ts ≡ Some (ms, rest)) × (get_member name ms ≡ get_member name found)

-- there are no members, whatever bound stands
abbrev pub HasNoMembers : ℕ → List Token → Type 0
HasNoMembers depth ts = (found : Members) (n : ℕ) → length ts ≤ n → members_at depth found n ts ≡ None

-- a list was opened, whose items come next, or another value was passed
abbrev pub Opens : ℕ → List Token → List Token → Bool → Type 0
Opens depth ts rest true = (0 < depth) × (value_at depth ts ≡ parse_map array (converted of_items (json.items (json.value (depth - 1)) (length rest) rest)))
Opens depth ts rest false = (d : Data) × (value_at depth ts ≡ Some (d, rest)) × (as_array d ≡ None)

-- an object was opened, whose members come next, or another value was passed
abbrev pub OpensObject : ℕ → List Token → List Token → Bool → Type 0
OpensObject depth ts rest true = (0 < depth) × (value_at depth ts ≡ parse_map object (members_in (depth - 1) rest))
OpensObject depth ts rest false = (d : Data) × (value_at depth ts ≡ Some (d, rest)) × (as_object d ≡ None)
