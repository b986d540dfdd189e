-- The values of the headers of a name, by the headers themselves.
use Rattle.std.proofs.Common.{◌≡◌, ℕ, List, [], ◌∷◌, length, map, Bool, true, false, ◌&&◌, ◌||◌, refl, sym, ap, arith, lt-ltb, cond}
use Rattle.std.specs.Prelude.{filter, nat_lt, bytes_eq}
use Rattle.std.specs.List.{list_any}
use Rattle.dnr_base.specs.declared.header.Header.{Header}
use Rattle.dnr_spec.specs.HeaderTests.{values_of}

pub any_value : (f : List ℕ → Bool) (name : List ℕ) (headers : List Header) → list_any (λ header. bytes_eq header.name name && f header.value) headers ≡ list_any f (values_of name headers)
any_value f name [] = refl
any_value f name (h ∷ headers) =
    elim (bytes_eq h.name name) as (λ v. ((v && f h.value) || list_any (λ header. bytes_eq header.name name && f header.value) headers)
    ≡ list_any f (map (λ header. header.value) (cond v (h ∷ filter (λ header. bytes_eq header.name name) headers) (filter (λ header. bytes_eq header.name name) headers)))) [
      | true ↦ ap (λ t. f h.value || t) (any_value f name headers)
      | false ↦ any_value f name headers
    ]

pub has_value : (name : List ℕ) (headers : List Header) → list_any (λ header. bytes_eq header.name name) headers ≡ nat_lt 0 (length (values_of name headers))
has_value name [] = refl
has_value name (h ∷ headers) =
    elim (bytes_eq h.name name) as (λ v. (v || list_any (λ header. bytes_eq header.name name) headers)
    ≡ nat_lt 0 (length (map (λ header. header.value) (cond v (h ∷ filter (λ header. bytes_eq header.name name) headers) (filter (λ header. bytes_eq header.name name) headers))))) [
      | true ↦ sym (lt-ltb 0 (length (h.value ∷ values_of name headers)) (omega arith))
      | false ↦ has_value name headers
    ]
