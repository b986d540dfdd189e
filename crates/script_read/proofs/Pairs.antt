-- A list that is no pair is no header.
use Rattle.std.proofs.Common.{◌≡◌, ◌<◌, ◌≤◌, List, [], ◌∷◌, length, Some, None, refl, ap, ◌∙◌, arith}
use Rattle.std.specs.Prelude.{option_and_then}
use Rattle.serde_json.specs.Data.{Data}
use Rattle.serde_json.specs.Find.{as_array}
use Rattle.serde_json.specs.declared.value.Value.{Value}
use Rattle.serde_json.specs.View.{items_view}
use Rattle.line_spec.specs.RequestLine.{as_header, header_from}

of_few : (values : List Value) → length values < 2 → header_from (items_view values) ≡ None
of_few [] few = refl
of_few (a ∷ []) few = refl
of_few (a ∷ b ∷ rest) few = absurd (omega arith)

of_many : (values : List Value) → 3 ≤ length values → header_from (items_view values) ≡ None
of_many [] many = absurd (omega arith)
of_many (a ∷ []) many = absurd (omega arith)
of_many (a ∷ b ∷ []) many = absurd (omega arith)
of_many (a ∷ b ∷ c ∷ rest) many = refl

pub too_few : (values : List Value) (d : Data) → length values < 2 → as_array d ≡ Some (items_view values) → as_header d ≡ None
unfolding as_header
too_few values d few is = ap (option_and_then header_from) is ∙ of_few values few

pub too_many : (values : List Value) (d : Data) → 3 ≤ length values → as_array d ≡ Some (items_view values) → as_header d ≡ None
unfolding as_header
too_many values d many is = ap (option_and_then header_from) is ∙ of_many values many
