-- Texts of patterns that are one plain domain: `||`, the domain and `^`.
use Rattle.std.specs.Prelude.{ℕ, ◌-◌, List, [], ◌∷◌, length, take, drop, codes, Bool, false, ◌&&◌, nat_le, nat_eq, Option, Some, None, option_and_then, if◌then◌else◌}
use Rattle.std.specs.List.{list_all, list_any, starts_with, ends_with}
use Rattle.dnr_base.specs.View.{is_name_byte}
use Rattle.dnr_spec.specs.Hosts.{labels_of}
use Rattle.dnr_spec.specs.Domains.{is_domain}

abbrev pub is_lower_letter : ℕ → Bool
is_lower_letter b = nat_le 97 b && nat_le b 122

-- the last of the labels has a letter
abbrev pub ends_in_letters : List (List ℕ) → Bool
ends_in_letters [] = false
ends_in_letters (label ∷ []) = list_any is_lower_letter label
ends_in_letters (label ∷ next ∷ labels) = ends_in_letters (next ∷ labels)

-- labels of lower-case letters, digits, `-` and `_` with a dot between each two, which are the name
-- of no address
abbrev pub is_plain_domain : List ℕ → Bool
is_plain_domain text = list_all is_name_byte text && is_domain text && ends_in_letters (labels_of text)

-- what stands behind a `||`, and before a `^` at the end
abbrev pub behind_bars : List ℕ → Option (List ℕ)
behind_bars text = if starts_with nat_eq text (codes "||") then Some (drop 2 text) else None

abbrev pub before_caret : List ℕ → Option (List ℕ)
before_caret text = if ends_with nat_eq text (codes "^") then Some (take (length text - 1) text) else None

abbrev pub if_plain : List ℕ → Option (List ℕ)
if_plain text = if is_plain_domain text then Some text else None

-- the domain of a text that is `||`, a plain domain and `^`; other texts have none
abbrev pub plain_domain : List ℕ → Option (List ℕ)
plain_domain text = option_and_then if_plain (option_and_then before_caret (behind_bars text))
