-- Hosts and their labels: URL Standard, "Host writing". Which of them count as IP addresses is this project's profile: a
-- bracket at the beginning, or a last label of digits alone.
use Rattle.std.specs.Prelude.{ℕ, List, [], ◌∷◌, length, codes, Bool, false, ◌==◌, ◌&&◌, ◌||◌, nat_eq, nat_lt}
use Rattle.std.specs.List.{starts_with, list_all, slice_split}
use Rattle.std.specs.Char.{is_ascii_digit}

-- the labels of a host: what stands between its dots, from the left
abbrev pub labels_of : List ℕ → List (List ℕ)
labels_of host = slice_split (λ b. b == 46) host

-- a label of digits alone
abbrev pub is_number : List ℕ → Bool
is_number label = nat_lt 0 (length label) && list_all is_ascii_digit label

-- the last of the labels is a number
abbrev pub ends_in_number : List (List ℕ) → Bool
ends_in_number [] = false
ends_in_number (label ∷ []) = is_number label
ends_in_number (label ∷ next ∷ labels) = ends_in_number (next ∷ labels)

-- the host is an address: of the sixth version in brackets, of the fourth in numbers
abbrev pub is_ip_host : List ℕ → Bool
is_ip_host host = starts_with nat_eq host (codes "[") || ends_in_number (labels_of host)
