-- What the bits of a set say of its members, whatever these are.
use Rattle.std.proofs.Common.{◌≡◌, ◌≢◌, ℕ, zero, suc, ◌*◌, ◌^◌, ◌-◌, ◌≤◌, ◌<◌, List, [], ◌∷◌, Bool, true, false, cond, not, ◌&&◌, ◌||◌, ◌==◌, refl, sym, ap, ◌∙◌, subst, filter, arith, ne_eqb, lit<}
use Rattle.std.specs.Prelude.{bit_and, bit_or}
use Rattle.std.proofs.lemmas.Bool.Decides.{nat_tests}
use Rattle.std.specs.Int.{bit_at}
use Rattle.std.proofs.lemmas.Nat.Bits.{and_pow, bit_at-lt, same_from_bits_below}
use Rattle.std.proofs.lemmas.Nat.{and_or_self, and_or_apart, or_lt, pow_apart, pow_pos}
use Rattle.std.proofs.lemmas.Grind.{and-not_self, and_not_apart}
use Rattle.std.proofs.Math.Nat.{pow-le-pow_right}
use Rattle.std.proofs.Math.Pow.{pow-lt}
use Rattle.std.proofs.Math.Path.{fun_ext}
use Rattle.dnr_base.specs.BitSet.{has_bit, members_of, is_among}

-- all members are listed, and the places below a count of at most 16 are theirs
pub record IsListed {X : Type 0} (place : X → ℕ) (all : List X) (count : ℕ) : Type 0 where
  pub complete : (member : X) → is_among place all member ≡ true
  pub below : (member : X) → place member < count
  pub at : (i : ℕ) → i < count → (member : X) × (place member ≡ i)
  pub few : count ≤ 16

-- members of one place have one bit
same_bit : {X : Type 0} (place : X → ℕ) (bits : ℕ) (a b : X) → (place a == place b) ≡ true → has_bit bits (place b) ≡ has_bit bits (place a)
same_bit place bits a b same = ap (λ i. has_bit bits i) (sym (let e : place a ≡ place b = grind (arith, nat_tests) in e))

-- the truth table of one more member: s, it is the one sought; b, its bit is set; k, the bit of the one
-- sought is set; r, the one sought is among the others
one_more : (s b k r : Bool) → (s ≡ true → b ≡ k) → cond b (s || (r && k)) (r && k) ≡ ((s || r) && k)
one_more true true true r h = refl
one_more true true false r h = h refl
one_more true false true true h = refl
one_more true false true false h = h refl
one_more true false false true h = refl
one_more true false false false h = refl
one_more false true k r h = refl
one_more false false k r h = refl

spread : {X : Type 0} (place : X → ℕ) (b s : Bool) (member first : X) (others : List X) → (place member == place first) ≡ s
    → is_among place (cond b (first ∷ others) others) member ≡ cond b (s || is_among place others member) (is_among place others member)
spread place true s member first others e = ap (λ t. t || is_among place others member) e
spread place false s member first others e = refl

among-filter : {X : Type 0} (place : X → ℕ) (bits : ℕ) (all : List X) (member : X) → is_among place (members_of place all bits) member ≡ (is_among place all member && has_bit bits (place member))
among-filter place bits [] member = refl
among-filter place bits (first ∷ all) member =
    spread place (has_bit bits (place first)) (place member == place first) member first (members_of place all bits) refl
    ∙ ap (λ r. cond (has_bit bits (place first)) (place member == place first || r) r) (among-filter place bits all member)
    ∙ one_more (place member == place first) (has_bit bits (place first)) (has_bit bits (place member)) (is_among place all member) (same_bit place bits member first)

-- a member is in the set where its bit is set
pub among-members : {X : Type 0} (place : X → ℕ) (all : List X) (count : ℕ) → IsListed place all count → (bits : ℕ) (member : X)
    → is_among place (members_of place all bits) member ≡ has_bit bits (place member)
among-members place all count listed bits member = among-filter place bits all member ∙ ap (λ b. b && has_bit bits (place member)) (listed.complete member)

pow_nonzero : (n : ℕ) → 2 ^ n ≢ 0
pow_nonzero n = let positive = pow_pos n in omega arith

pow_small : (n : ℕ) → n < 16 → 2 ^ n ≤ 65535
pow_small n small =
    let low : n ≤ 15 = omega arith in
    let most : 2 ^ n ≤ 2 ^ 15 = pow-le-pow_right {n = 2} (lit< tt) low in
    omega arith

set_bit : (bits : ℕ) (n m : ℕ) (same : Bool) → (n == m) ≡ same → not (bit_and (bit_or bits (2 ^ n)) (2 ^ m) == 0) ≡ (same || not (bit_and bits (2 ^ m) == 0))
set_bit bits n m true same =
    let e : n ≡ m = grind (arith, nat_tests) in
    subst (λ k. not (bit_and (bit_or bits (2 ^ n)) (2 ^ k) == 0) ≡ true) e (ap (λ v. not (v == 0)) (and_or_self (2 ^ n) bits) ∙ ap not (ne_eqb (2 ^ n) 0 (pow_nonzero n)))
set_bit bits n m false apart =
    let ne : n ≢ m = grind (arith, nat_tests) in
    ap (λ v. not (v == 0)) (and_or_apart (2 ^ m) bits (2 ^ n) (pow_apart n m ne))

clear_bit : (bits : ℕ) (n m : ℕ) (same : Bool) → (n == m) ≡ same → n < 16 → m < 16 → not (bit_and (bit_and bits (65535 - 2 ^ n)) (2 ^ m) == 0) ≡ (not same && not (bit_and bits (2 ^ m) == 0))
clear_bit bits n m true same n_small m_small =
    let e : m ≡ n = grind (arith, nat_tests) in
    ap (λ v. not (v == 0)) (and-not_self bits 65535 (2 ^ n) (2 ^ m) refl (pow_small n n_small) (ap (λ k. 2 ^ k) e))
clear_bit bits n m false apart n_small m_small =
    let ne : n ≢ m = grind (arith, nat_tests) in
    ap (λ v. not (v == 0)) (and_not_apart bits 65535 (2 ^ n) (2 ^ m) refl (pow_small n n_small) (pow_small m m_small) (pow_apart n m ne))

-- the bit of a member puts no bit past the count in
pub alone-insert : {X : Type 0} (place : X → ℕ) (all : List X) (count : ℕ) → IsListed place all count → (bits : ℕ) (member : X) → bits < 2 ^ count → bit_or bits (2 ^ place member) < 2 ^ count
alone-insert place all count listed bits member alone = or_lt count bits (2 ^ place member) alone (pow-lt (listed.below member))

-- with the bit of a member the set has that one, and the others as before
pub among-insert : {X : Type 0} (place : X → ℕ) (all : List X) (count : ℕ) → IsListed place all count → (old new : ℕ) (member other : X)
    → new ≡ bit_or old (2 ^ place member)
    → is_among place (members_of place all new) other ≡ (place member == place other || is_among place (members_of place all old) other)
among-insert place all count listed old new member other e =
    among-members place all count listed new other ∙ ap (λ bits. has_bit bits (place other)) e ∙ set_bit old (place member) (place other) (place member == place other) refl
    ∙ ap (λ b. place member == place other || b) (sym (among-members place all count listed old other))

small : {X : Type 0} (place : X → ℕ) (all : List X) (count : ℕ) → IsListed place all count → (member : X) → place member < 16
small place all count listed member = let below = listed.below member in let few = listed.few in omega arith

-- without the bit of a member the set has the others as before, and not that one
pub among-remove : {X : Type 0} (place : X → ℕ) (all : List X) (count : ℕ) → IsListed place all count → (old new : ℕ) (member other : X)
    → new ≡ bit_and old (65535 - 2 ^ place member)
    → is_among place (members_of place all new) other ≡ (not (place member == place other) && is_among place (members_of place all old) other)
among-remove place all count listed old new member other e =
    among-members place all count listed new other ∙ ap (λ bits. has_bit bits (place other)) e
    ∙ clear_bit old (place member) (place other) (place member == place other) refl (small place all count listed member) (small place all count listed other)
    ∙ ap (λ b. not (place member == place other) && b) (sym (among-members place all count listed old other))

-- a set's list is all members, of which those that are in it stay
members-filter : {X : Type 0} (place : X → ℕ) (all : List X) (count : ℕ) → IsListed place all count → (bits : ℕ) (test : X → Bool)
    → ((member : X) → is_among place (members_of place all bits) member ≡ test member) → members_of place all bits ≡ filter test all
members-filter place all count listed bits test members =
    ap (λ t. filter t all) (fun_ext (λ member. sym (among-members place all count listed bits member) ∙ members member))

pub members-insert : {X : Type 0} (place : X → ℕ) (all : List X) (count : ℕ) → IsListed place all count → (old new : ℕ) (member : X)
    → new ≡ bit_or old (2 ^ place member)
    → members_of place all new ≡ filter (λ other. place member == place other || is_among place (members_of place all old) other) all
members-insert place all count listed old new member e =
    members-filter place all count listed new (λ other. place member == place other || is_among place (members_of place all old) other)
    (λ other. among-insert place all count listed old new member other e)

pub members-remove : {X : Type 0} (place : X → ℕ) (all : List X) (count : ℕ) → IsListed place all count → (old new : ℕ) (member : X)
    → new ≡ bit_and old (65535 - 2 ^ place member)
    → members_of place all new ≡ filter (λ other. not (place member == place other) && is_among place (members_of place all old) other) all
members-remove place all count listed old new member e =
    members-filter place all count listed new (λ other. not (place member == place other) && is_among place (members_of place all old) other)
    (λ other. among-remove place all count listed old new member other e)

-- a bit is told by its test
bit_told : (b p : ℕ) → b < 2 → p ≢ 0 → cond (not (b * p == 0)) 1 0 ≡ b
bit_told zero p small positive = ap (λ v. cond (not (v == 0)) 1 0) (let none : 0 * p ≡ 0 = omega arith in none)
bit_told (suc zero) p small positive = ap (λ t. cond (not t) 1 0) (ne_eqb (1 * p) 0 (subst (λ v. v ≢ 0) (let one : p ≡ 1 * p = omega arith in one) positive))
bit_told (suc (suc b)) p small positive = absurd (omega (arith, small))

bit_of_test : (bits place : ℕ) → cond (not (bit_and bits (2 ^ place) == 0)) 1 0 ≡ bit_at bits place
bit_of_test bits place = ap (λ v. cond (not (v == 0)) 1 0) (and_pow bits place) ∙ bit_told (bit_at bits place) (2 ^ place) (bit_at-lt bits place) (pow_nonzero place)

-- sets of the same members have the same bits
same_bit_of : {X : Type 0} (place : X → ℕ) (all : List X) (count : ℕ) → IsListed place all count → (one other : ℕ) (member : X)
    → members_of place all one ≡ members_of place all other → bit_at one (place member) ≡ bit_at other (place member)
same_bit_of place all count listed one other member same =
    sym (bit_of_test one (place member))
    ∙ ap (λ t. cond t 1 0) (sym (among-members place all count listed one member) ∙ ap (λ members. is_among place members member) same ∙ among-members place all count listed other member)
    ∙ bit_of_test other (place member)

pub same_bits : {X : Type 0} (place : X → ℕ) (all : List X) (count : ℕ) → IsListed place all count → (one other : ℕ) → one < 2 ^ count → other < 2 ^ count
    → members_of place all one ≡ members_of place all other → one ≡ other
same_bits place all count listed one other one_alone other_alone same =
    same_from_bits_below count one other one_alone other_alone (λ i small.
    let at = listed.at i small in
    subst (λ j. bit_at one j ≡ bit_at other j) at.1 (same_bit_of place all count listed one other at.0 same))
