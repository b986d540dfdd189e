-- Which requests have methods.
use Rattle.std.specs.Prelude.{◌≡◌, [], ◌∷◌, false, true, Some}
use Rattle.dnr_base.specs.declared.method.Method.TheVariants.{Get, Post}
use Rattle.dnr_base.specs.declared.scheme.Scheme.TheVariants.{Http, Ws}
use Rattle.rule_spec.specs.Holds.{is_by, is_not_by}

abbrev pub SocketsHaveNoMethods : Type 0
SocketsHaveNoMethods =
    (is_by (Some (Get ∷ [])) Ws Get ≡ false) × (is_not_by (Get ∷ []) Ws Get ≡ true)
    × (is_by (Some (Get ∷ [])) Http Get ≡ true) × (is_by (Some (Post ∷ [])) Http Get ≡ false) × (is_not_by (Get ∷ []) Http Get ≡ false)
