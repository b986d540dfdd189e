-- Lists of rules that stand in segments, put together.
use Rattle.std.proofs.Common.{◌≡◌, ℕ, ◌+◌, ◌<◌, ◌≤◌, List, [], ◌∷◌, ◌++◌, length, drop, get_or, refl, sym, ap, ◌∙◌, subst, arith}
use Rattle.std.specs.Prelude.{max}
use Rattle.std.proofs.lemmas.List.{drop_all, drop_more}
use Rattle.rule_segments.specs.Segments.{Segment}
use Rattle.rule_spec.specs.Rule.{Rule}
use Rattle.rule_spec.specs.State.{Extension}
use Rattle.generation.specs.Segments.{AreMost, EachStandsIn, StandIn, added_lists, lists_of, most_of}

both_stand : (a b : List (List Rule)) (s t : List (List Segment)) → EachStandsIn a s → EachStandsIn b t → EachStandsIn (a ++ b) (s ++ t)
both_stand [] b [] t h k = k
both_stand [] b (segments ∷ s) t h k = absurd h
both_stand (rules ∷ a) b [] t h k = absurd h
both_stand (rules ∷ a) b (segments ∷ s) t h k = (h.0, both_stand a b s t h.1 k)

most_both : (s t : List (List Segment)) → most_of (s ++ t) ≡ max (most_of s) (most_of t)
most_both [] t = omega arith
most_both (segments ∷ s) t = let more = most_both s t in omega (arith, more)

most_together : (a b : List (List Rule)) (m n : ℕ) → AreMost a m → AreMost b n → AreMost (a ++ b) (max m n)
most_together a b m n h k = record {
  segments = h.segments ++ k.segments;
  stand = both_stand a b h.segments k.segments h.stand k.stand;
  most = let both = most_both h.segments k.segments in omega (arith, both, h.most, k.most);
}

pub most_of_two : (extension : Extension) (session dynamic : List Segment) (count : ℕ) → StandIn extension.session session → StandIn extension.dynamic dynamic
    → count ≡ max (length session) (length dynamic) → AreMost (lists_of extension) count
most_of_two extension session dynamic count h k is = record {
  segments = session ∷ dynamic ∷ [];
  stand = (h, (k, tt));
  most = omega (arith, is);
}

-- the lists of one more extension
pub most_next : (extensions : List Extension) (i : ℕ) (extension : Extension) (own most new : ℕ) → i < length extensions → extension ≡ get_or extensions i extension
    → AreMost (lists_of extension) own → new ≡ max own most
    → ((more : ℕ) → AreMost (added_lists (drop i extensions)) more → AreMost (added_lists extensions) (max most more))
    → (more : ℕ) → AreMost (added_lists (drop (i + 1) extensions)) more → AreMost (added_lists extensions) (max new more)
most_next extensions i extension own most new within is mine told so_far more h =
    let rest = drop (i + 1) extensions in
    let cut = ap added_lists (drop_more extensions i extension within) ∙ ap (λ e. lists_of e ++ added_lists rest) (sym is) in
    let here = subst (λ (l : List (List Rule)). AreMost l (max own more)) (sym cut) (most_together (lists_of extension) (added_lists rest) own more mine h) in
    let same : max most (max own more) ≡ max new more = omega (arith, told) in
    subst (λ (n : ℕ). AreMost (added_lists extensions) n) same (so_far (max own more) here)

pub most_first : (extensions : List Extension) (more : ℕ) → AreMost (added_lists (drop 0 extensions)) more → AreMost (added_lists extensions) (max 0 more)
most_first extensions more h = let same : more ≡ max 0 more = omega arith in subst (λ (n : ℕ). AreMost (added_lists extensions) n) same h

pub most_last : (extensions : List Extension) (i most : ℕ) → length extensions ≤ i
    → ((more : ℕ) → AreMost (added_lists (drop i extensions)) more → AreMost (added_lists extensions) (max most more))
    → AreMost (added_lists extensions) most
most_last extensions i most past h =
    let none : AreMost (added_lists (drop i extensions)) 0 =
    subst (λ (es : List Extension). AreMost (added_lists es) 0) (sym (drop_all i extensions past)) (record { segments = []; stand = tt; most = refl }) in
    let same : max most 0 ≡ most = omega arith in
    subst (λ (n : ℕ). AreMost (added_lists extensions) n) same (h 0 none)
