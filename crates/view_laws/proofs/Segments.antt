-- The segments of an IPv6 address that a text writes have sixteen bits each.
use Rattle.std.proofs.Common.{ℕ, zero, suc, ◌+◌, ◌-◌, ◌^◌, ◌<◌, ◌≤◌, ◌*◌, Bool, true, false, List, [], ◌∷◌, ◌++◌, length, get_or, replicate, All, sym, subst, inl, inr, ⊎_elim, arith}
use Rattle.std.specs.Str.Parse.{digits_value}
use Rattle.std.specs.Net.Addr.{segments_of}
use Rattle.std.specs.Net.Grammar.{IsDotted, IsGroup, IsGroupsAfter, IsElided, IsColonHex}
use Rattle.std.proofs.lemmas.Bool.{cases_lt}
use Rattle.std.proofs.lemmas.Int.Digits.{digits_value-lt}
use Rattle.std.proofs.lemmas.List.{get_or_past}
use Rattle.std.proofs.lemmas.List.Elements.{All-nil, All-cons, All-append, All-replicate, All-get_or}

abbrev IsSegment : ℕ → Type 0
IsSegment s = s < 2 ^ 16

digits_fit : (n value : ℕ) → n ≤ 4 → value < 16 ^ n → IsSegment value
digits_fit zero value few below = omega (arith, below)
digits_fit (suc zero) value few below = omega (arith, below)
digits_fit (suc (suc zero)) value few below = omega (arith, below)
digits_fit (suc (suc (suc zero))) value few below = omega (arith, below)
digits_fit (suc (suc (suc (suc zero)))) value few below = omega (arith, below)
digits_fit (suc (suc (suc (suc (suc n))))) value few below = absurd (omega (arith, few))

group_fits : (text : List ℕ) (s : ℕ) → IsGroup text s → IsSegment s
group_fits text s group =
    subst IsSegment group.0.1 (digits_fit (length text) (digits_value 16 text) group.1 (digits_value-lt 16 text group.0.0.1))

dotted_fits : (text octets : List ℕ) → IsDotted text octets → All IsSegment (segments_of octets)
dotted_fits text octets dotted =
    let fit = dotted.fit in
    subst (λ (os : List ℕ). All IsSegment (segments_of os)) (sym dotted.value)
    (All-cons IsSegment (dotted.a * 256 + dotted.b) ((dotted.c * 256 + dotted.d) ∷ []) (omega (arith, fit.0, fit.1)) (All-cons IsSegment (dotted.c * 256 + dotted.d) [] (omega (arith, fit.2, fit.3)) (All-nil IsSegment)))

groups_fit : (ipv4 : Bool) (lead text segments : List ℕ) → IsGroupsAfter ipv4 lead text segments → All IsSegment segments
groups_fit ipv4 lead text [] groups = All-nil IsSegment
groups_fit ipv4 lead text (s ∷ segments) (inl (group, rest, spelled, one, more)) =
    All-cons IsSegment s segments (group_fits group s one) (groups_fit ipv4 (58 ∷ []) rest segments more)
groups_fit ipv4 lead text (s ∷ segments) (inr (last, octets, may, spelled, dotted, same)) =
    subst (All IsSegment) (sym same) (dotted_fits last octets dotted)

elided_fit : (text segments : List ℕ) → IsElided text segments → All IsSegment segments
elided_fit text segments elided =
    subst (All IsSegment) (sym elided.value)
    (All-append IsSegment (elided.head ++ replicate (8 - length elided.head - length elided.tail) 0) elided.tail
    (All-append IsSegment elided.head (replicate (8 - length elided.head - length elided.tail) 0) (groups_fit false [] elided.head_text elided.head elided.head_groups)
    (All-replicate IsSegment (8 - length elided.head - length elided.tail) 0 (omega arith)))
    (groups_fit true [] elided.tail_text elided.tail elided.tail_groups))

all_fit : (text segments : List ℕ) → IsColonHex text segments → All IsSegment segments
all_fit text segments (inl groups) = groups_fit true [] text segments groups.0
all_fit text segments (inr elided) = elided_fit text segments elided

-- the same at each place, also beyond the last segment
pub segments_fit : (text segments : List ℕ) → IsColonHex text segments → (k : ℕ) → get_or segments k 0 < 2 ^ 16
segments_fit text segments spelled k =
    ⊎_elim
    (λ (inside : k < length segments). All-get_or IsSegment segments k 0 inside (all_fit text segments spelled))
    (λ (beyond : length segments ≤ k). subst IsSegment (sym (get_or_past segments k 0 beyond)) (omega arith))
    (cases_lt k (length segments))
