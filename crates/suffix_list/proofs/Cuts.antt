-- Texts that were cut at their first dots.
use Rattle.std.proofs.Common.{◌≡◌, ℕ, ◌+◌, ◌-◌, List, [], ◌∷◌, length, drop, ◌≤◌, Option, Some, None, MatchOption, Bor, sym, ap, ◌∙◌, arith}
use Rattle.std.specs.Prelude.{nat_le}
use Rattle.std.specs.List.{join_with_byte}
use Rattle.std.proofs.lemmas.Bool.{cond-true, le-leb}
use Rattle.dnr_spec.specs.Hosts.{labels_of}
use Rattle.dnr_spec.specs.Suffixes.{last_labels}
use Rattle.dnr_spec.proofs.Labels.{join_with_byte-labels_of}

abbrev pub IsCut : List ℕ → List ℕ → Option (Bor (List ℕ)) → Type 0
IsCut text first rest = MatchOption rest (labels_of text ≡ first ∷ []) (λ r. labels_of text ≡ first ∷ labels_of r.now)

-- the labels behind the first
abbrev pub labels_behind : Option (Bor (List ℕ)) → List (List ℕ)
labels_behind None = []
labels_behind (Some rest) = labels_of rest.now

-- how long such a rest is at most
abbrev pub rest_len : Option (Bor (List ℕ)) → ℕ
rest_len None = 0
rest_len (Some rest) = length rest.now + 1

pub first_cut : (text first : List ℕ) (rest : Option (Bor (List ℕ))) → IsCut text first rest → labels_of text ≡ first ∷ labels_behind rest
first_cut text first None h = h
first_cut text first (Some rest) h = h

-- what is left of a name, once it has one label more than the suffix
pub labels_from_is : (suffix left : ℕ) (rest : List ℕ) (labels : List (List ℕ)) → left ≡ length (labels_of rest) → suffix + 1 ≤ left → left ≤ suffix + 1 → drop (left - (suffix + 1)) (labels_of rest) ≡ drop (length labels - (suffix + 1)) labels → suffix + 1 ≤ length labels → Some rest ≡ last_labels (suffix + 1) labels
labels_from_is suffix left rest labels is above below same enough =
    let none : left - (suffix + 1) ≡ 0 = omega arith in
    let whole : drop (left - (suffix + 1)) (labels_of rest) ≡ labels_of rest = ap (λ n. drop n (labels_of rest)) none in
    let joined : join_with_byte 46 (drop (length labels - (suffix + 1)) labels) ≡ rest = ap (join_with_byte 46) (sym same ∙ whole) ∙ join_with_byte-labels_of rest in
    ap (λ (t : List ℕ). Some t) (sym joined) ∙ sym (cond-true (nat_le (suffix + 1) (length labels)) _ _ (le-leb (suffix + 1) (length labels) enough))
