-- Members of a name, a turn at a time.
use Rattle.std.proofs.Common.{◌≡◌, ℕ, ◌+◌, ◌-◌, ◌<◌, ◌≤◌, List, length, Bool, true, false, Option, Some, None, Result, Ok, Err, option_and_then, refl, sym, ap, ◌∙◌, bytes_eq, arith}
use Rattle.std.specs.Prelude.{OnErr}
use Rattle.std.proofs.lemmas.Slice.Eq.{bytes_eq-Decides}
use Rattle.json.specs.Token.{Token}
use Rattle.json.specs.Json as json
use Rattle.json.specs.Json.{parse_map, read_key, members, value}
use Rattle.json.proofs.Grammar.{members_more, members_end, read_key-shorter}
use Rattle.serde_json.specs.Data.{Data, Members, no_members, put}
use Rattle.serde_json.specs.Find.{get_member}
use Rattle.serde_json.specs.Read.{of_json, of_members}
use Rattle.serde_json.proofs.Views.{get_member-put, get_member-put_other}
use Rattle.json_fields.specs.Last.{times, one_if, value_at, members_at, members_in, HasTimes, IsLast, Leaves, HasNoMembers}
use Rattle.json_fields.proofs.Turns.{converted_some, member_read, member_refused, key_refused, members_over}

-- ---- readings that are mapped

abbrev or_this : {A : Type 0} → A → Option A → A
or_this a None = a
or_this a (Some b) = b

pub same_first : {A B : Type 0} (a b : A) (r s : B) → ◌≡◌ {A = Option (A × B)} (Some (a, r)) (Some (b, s)) → a ≡ b
same_first {A = A} {B = B} a b r s e = ap {A = Option (A × B)} (λ o. (or_this {A = A × B} (a, r) o).0) e

pub mapped : {A B : Type 0} (f : A → B) (o : Option (A × List Token)) (b : B) (r : List Token) → parse_map f o ≡ Some (b, r) → (a : A) × (o ≡ Some (a, r)) × (b ≡ f a)
mapped f None b r e = absurd (cc)
mapped f (Some p) b r e = let same = ap (or_this (f p.0, p.1)) e in (p.0, ap (λ q. Some (p.0, q.1)) same, sym (ap (λ q. q.0) same))

pub maps_twice : {A B C : Type 0} (f : B → C) (g : A → B) (o : Option (A × List Token)) → parse_map f (parse_map g o) ≡ parse_map (λ a. f (g a)) o
maps_twice f g None = refl
maps_twice f g (Some p) = refl

pub maps_none : {A : Type 0} (o : Option (A × List Token)) → o ≡ parse_map (λ a. a) o
maps_none None = refl
maps_none (Some p) = refl

pub on_err : {T E A : Type 0} (r : Result T E) → A → OnErr r A
on_err (Ok x) a = tt
on_err (Err e) a = a

-- ---- the member of the name

pub at_most_one : (b : Bool) → one_if b ≤ 1
at_most_one true = omega arith
at_most_one false = omega arith

pub never_none : (b : Bool) → one_if b ≡ 0 → b ≡ true → ⊥
never_none true e h = absurd (cc)
never_none false e h = absurd (cc)

pub is_named : (k name : List ℕ) → 0 < one_if (bytes_eq k name) → k ≡ name
is_named k name h = (bytes_eq-Decides k name).0 (some (bytes_eq k name) h) where
  some : (b : Bool) → 0 < one_if b → b ≡ true
  some true h = refl
  some false h = let never : ⊥ = omega arith in absurd never

pub is_other : (k name : List ℕ) → one_if (bytes_eq k name) ≡ 0 → name ≡ k → ⊥
is_other k name none e = never_none (bytes_eq k name) none ((bytes_eq-Decides k name).1 (sym e))

-- ---- a turn

-- a member and those behind it
pub record IsOneMore (depth n : ℕ) (k : List ℕ) (all : json.Members) (rest r : List Token) : Type 0 where
  pub j : json.Json
  pub others : json.Members
  pub is : all ≡ json.member k j others
  pub are : members (value depth) (n - 1) r ≡ Some (others, rest)

pub one_more : (depth n : ℕ) (k : List ℕ) (ts s r rest : List Token) (d : Data) (all : json.Members) → 0 < n → read_key ts ≡ Some (Some k, s) → value_at depth s ≡ Some (d, r)
    → members (value depth) n ts ≡ Some (all, rest) → IsOneMore depth n k all rest r
one_more depth n k ts s r rest d all some key v are =
    let j = converted_some of_json (value depth s) d r v in
    let behind = mapped (json.member k j.0) (members (value depth) (n - 1) r) all rest (sym (members_more (value depth) n k ts s r j.0 some key j.1) ∙ are) in
    record { j = j.0; others = behind.0; is = behind.2; are = behind.1 }

pub no_more : (depth n : ℕ) (name : List ℕ) (ts r rest : List Token) (all : json.Members) → length ts ≤ n → read_key ts ≡ Some (None, r) → members (value depth) n ts ≡ Some (all, rest) → times name all ≡ 0
no_more depth n name ts r rest all enough closed are =
    ap (times name) (same_first all json.no_members rest r (sym are ∙ members_end (value depth) n ts r enough closed))

-- ---- the members behind others

-- whatever was found before, the same is found at the name
pub GoesOn : ℕ → List ℕ → List Token → List Token → Type 0
GoesOn depth name ts here = (found : Members) (n : ℕ) → length ts ≤ n
    → (m : ℕ) × (more : Members) × (length here ≤ m) × (members_at depth found n ts ≡ members_at depth more m here) × (get_member name more ≡ get_member name found)

pub goes_begins : (depth : ℕ) (name : List ℕ) (ts : List Token) → GoesOn depth name ts ts
unfolding GoesOn
goes_begins depth name ts = λ found n enough. (n, found, enough, refl, refl)

pub goes_more : (depth : ℕ) (name k : List ℕ) (whole ts s r : List Token) (d : Data) → GoesOn depth name whole ts → read_key ts ≡ Some (Some k, s) → value_at depth s ≡ Some (d, r) → length r ≤ length s
    → (name ≡ k → ⊥) → GoesOn depth name whole r
unfolding GoesOn
goes_more depth name k whole ts s r d goes key v less other = λ found n enough.
    let so_far = goes found n enough in
    let shorter = read_key-shorter ts (Some k) s key in (
      so_far.0 - 1,
      put k d so_far.1,
      omega (arith, so_far.2, shorter, less),
      so_far.3 ∙ member_read (value depth) so_far.1 so_far.0 k ts s r d (omega (arith, so_far.2, shorter)) key v,
      get_member-put_other name k d so_far.1 other ∙ so_far.4,
    )

pub goes_over : (depth : ℕ) (name : List ℕ) (whole ts r : List Token) → GoesOn depth name whole ts → read_key ts ≡ Some (None, r) → Leaves depth name whole r
unfolding GoesOn
goes_over depth name whole ts r goes closed = λ found n enough.
    let so_far = goes found n enough in
    (so_far.1, so_far.3 ∙ members_over (value depth) so_far.1 so_far.0 ts r so_far.2 closed, so_far.4)

pub goes_no_key : (depth : ℕ) (name : List ℕ) (whole ts : List Token) → GoesOn depth name whole ts → read_key ts ≡ None → HasNoMembers depth whole
unfolding GoesOn
goes_no_key depth name whole ts goes none = λ found n enough.
    let so_far = goes found n enough in
    so_far.3 ∙ key_refused (value depth) so_far.1 so_far.0 ts none

pub goes_no_value : (depth : ℕ) (name k : List ℕ) (whole ts s : List Token) → GoesOn depth name whole ts → read_key ts ≡ Some (Some k, s) → value_at depth s ≡ None → HasNoMembers depth whole
unfolding GoesOn
goes_no_value depth name k whole ts s goes key none = λ found n enough.
    let so_far = goes found n enough in
    so_far.3 ∙ member_refused (value depth) so_far.1 so_far.0 k ts s key none

-- ---- the last value

pub last_here : (depth n : ℕ) (name k : List ℕ) (whole ts s rest : List Token) (found : Members) (all : json.Members) → length ts ≤ n → 0 < n → read_key ts ≡ Some (Some k, s)
    → members (value depth) n ts ≡ Some (all, rest) → members_in depth whole ≡ members_at depth found n ts → times name all ≡ 1 → k ≡ name → one_if (bytes_eq k name) ≡ 1 → IsLast depth name whole s
last_here depth n name k whole ts s rest found all enough some key are conv count named one =
    let shorter = read_key-shorter ts (Some k) s key in
    record {
      n = n - 1;
      found = found;
      goes = λ d r v. conv ∙ member_read (value depth) found n k ts s r d some key v ∙ ap (λ q. members_at depth (put q d found) (n - 1) r) named;
      enough = λ r less. omega (arith, shorter, less);
      none = λ d r v less.
          let more = one_more depth n k ts s r rest d all some key v are in
          let split : one_if (bytes_eq k name) + times name more.others ≡ 1 = sym (ap (times name) more.is) ∙ count in
          record { n = n - 1; all = more.others; rest = rest; enough = omega (arith, shorter, less); are = more.are; count = omega (arith, split, one) };
      breaks = λ none. conv ∙ member_refused (value depth) found n k ts s key none;
    }

-- ---- what a caller knows

-- the value that was read there, and the members behind it, are those of the object
pub last_is : (depth : ℕ) (name : List ℕ) (ts here r rest : List Token) (d : Data) → IsLast depth name ts here → value_at depth here ≡ Some (d, r) → length r ≤ length here → Leaves depth name r rest
    → (ms : Members) × (members_in depth ts ≡ Some (ms, rest)) × (get_member name ms ≡ Some d)
last_is depth name ts here r rest d last v less leaves =
    let over = leaves (put name d last.found) last.n (last.enough r less) in
    (over.0, last.goes d r v ∙ over.1, over.2 ∙ get_member-put name d last.found)

pub last_breaks : (depth : ℕ) (name : List ℕ) (ts here r : List Token) (d : Data) → IsLast depth name ts here → value_at depth here ≡ Some (d, r) → length r ≤ length here → HasNoMembers depth r → members_in depth ts ≡ None
last_breaks depth name ts here r d last v less none = last.goes d r v ∙ none (put name d last.found) last.n (last.enough r less)

by_value : (name k : List ℕ) (js : json.Members) (found ms : Members) (o : Option Data) → (name ≡ k → ⊥) → ((more : Members) → of_members js more ≡ Some ms → get_member name ms ≡ get_member name more)
    → option_and_then (λ d. of_members js (put k d found)) o ≡ Some ms → get_member name ms ≡ get_member name found
by_value name k js found ms None other rest e = absurd (cc)
by_value name k js found ms (Some d) other rest e = rest (put k d found) e ∙ get_member-put_other name k d found other

none_put : (name : List ℕ) (js : json.Members) (found ms : Members) → times name js ≡ 0 → of_members js found ≡ Some ms → get_member name ms ≡ get_member name found
none_put name json.no_members found ms none e = let same : ms ≡ found = cc in ap (get_member name) same
none_put name (json.member k j js) found ms none e =
    by_value name k js found ms (of_json j) (is_other k name (omega (arith, none))) (λ more. none_put name js more ms (omega (arith, none))) e

-- where no member has the name, none is found
pub none_is : (depth : ℕ) (name : List ℕ) (ts rest : List Token) (ms : Members) → HasTimes depth name ts 0 → members_in depth ts ≡ Some (ms, rest) → get_member name ms ≡ None
none_is depth name ts rest ms has e =
    let js = converted_some (λ ms. of_members ms no_members) (members (value depth) (length ts) ts) ms rest e in
    let one : has.all ≡ js.0 = same_first has.all js.0 has.rest rest (sym has.are ∙ js.1) in
    none_put name js.0 no_members ms (sym (ap (times name) one) ∙ has.count) js.2
