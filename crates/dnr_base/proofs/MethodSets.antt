-- The methods have places, and sets of the same methods are equal.
use Rattle.std.proofs.Common.{◌≡◌, ℕ, zero, suc, ◌^◌, ◌<◌, true, refl, ap, subst, arith, lit<, lit≤}
use Rattle.std.proofs.Math.Bridge.{le_prop}
use Rattle.dnr_base.specs.declared.method.Method.{Method}
use Rattle.dnr_base.specs.declared.method.Method.TheVariants.{Connect, Delete, Get, Head, Options, Patch, Post, Put, Other}
use Rattle.dnr_base.specs.Method.{all_methods, place_of, has_method}
use Rattle.dnr_base.specs.MethodSet.{methods_of}
use Rattle.dnr_base.specs.declared.method_set.MethodSet.{MethodSet}
use Rattle.dnr_base.proofs.BitSets.{IsListed, same_bits}

-- each is one of all
pub has_method-all_methods : (method : Method) → has_method all_methods method ≡ true
has_method-all_methods Connect = refl
has_method-all_methods Delete = refl
has_method-all_methods Get = refl
has_method-all_methods Head = refl
has_method-all_methods Options = refl
has_method-all_methods Patch = refl
has_method-all_methods Post = refl
has_method-all_methods Put = refl
has_method-all_methods Other = refl

place_below : (method : Method) → place_of method < 9
place_below Connect = lit< tt
place_below Delete = lit< tt
place_below Get = lit< tt
place_below Head = lit< tt
place_below Options = lit< tt
place_below Patch = lit< tt
place_below Post = lit< tt
place_below Put = lit< tt
place_below Other = lit< tt

method_at : (place : ℕ) → place < 9 → (method : Method) × (place_of method ≡ place)
method_at zero small = (Connect, refl)
method_at (suc zero) small = (Delete, refl)
method_at (suc (suc zero)) small = (Get, refl)
method_at (suc (suc (suc zero))) small = (Head, refl)
method_at (suc (suc (suc (suc zero)))) small = (Options, refl)
method_at (suc (suc (suc (suc (suc zero))))) small = (Patch, refl)
method_at (suc (suc (suc (suc (suc (suc zero)))))) small = (Post, refl)
method_at (suc (suc (suc (suc (suc (suc (suc zero))))))) small = (Put, refl)
method_at (suc (suc (suc (suc (suc (suc (suc (suc zero)))))))) small = (Other, refl)
method_at (suc (suc (suc (suc (suc (suc (suc (suc (suc place))))))))) small = absurd (omega (arith, small))

pub methods_listed : IsListed place_of all_methods 9
methods_listed = record { complete = has_method-all_methods; below = place_below; at = method_at; few = lit≤ tt }

abbrev the_set : (bits : ℕ) → bits < 2 ^ 9 → MethodSet
the_set bits alone = record { bits = bits; methods_alone = alone }

same_fields : (a b : ℕ) (p : a < 2 ^ 9) (q : b < 2 ^ 9) → a ≡ b → the_set a p ≡ the_set b q
same_fields a b p q same = subst (λ c. (r : c < 2 ^ 9) → the_set a p ≡ the_set c r) same (λ r. ap (the_set a) (le_prop p r)) q

pub same_set : (one other : MethodSet) → methods_of one ≡ methods_of other → one ≡ other
unfolding methods_of
same_set one other same =
    same_fields one.bits other.bits one.methods_alone other.methods_alone
    (same_bits place_of all_methods 9 methods_listed one.bits other.bits one.methods_alone other.methods_alone same)
