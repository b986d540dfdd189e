-- Lists that are taken from their end, and sets from their beginning.
use Rattle.std.proofs.Common.{◌≡◌, ℕ, List, [], ◌∷◌, ◌++◌, map, fold, reverse, String, Global, string_bytes, string_cmp, nat_cmp, refl, sym, ap, ◌∙◌}
use Rattle.std.specs.BTreeSet.{insert_key}
use Rattle.std.specs.Cmp.Lexicographic.{slice_cmp}
use Rattle.std.specs.Ordering.{match_ordering}
use Rattle.std.specs.declared.cmp.Ordering.{Ordering}
use Rattle.std.specs.declared.cmp.Ordering.TheVariants.{Less, Equal, Greater}
use Rattle.std.proofs.lemmas.List.{reverse-append}
use Rattle.std.proofs.lemmas.List.Sums.{fold-append}
use Rattle.compile_spec.specs.Alike.{ascending}

-- what is left to take
pub popped : {X : Type 0} (all left : List X) (x : X) → all ≡ left ++ x ∷ [] → reverse all ≡ x ∷ reverse left
popped all left x e = ap reverse e ∙ reverse-append left (x ∷ [])

seen : (o : Ordering) (a b c : List (String Global)) → map string_bytes (match_ordering o a b c) ≡ match_ordering o (map string_bytes a) (map string_bytes b) (map string_bytes c)
seen Less a b c = refl
seen Equal a b c = refl
seen Greater a b c = refl

-- a text put in among others, as its bytes
pub inserted : (texts : List (String Global)) (text : String Global) → map string_bytes (insert_key string_cmp texts text) ≡ insert_key (slice_cmp nat_cmp) (map string_bytes texts) (string_bytes text)
inserted [] text = refl
inserted (other ∷ texts) text =
    seen (string_cmp text other) (text ∷ other ∷ texts) (other ∷ texts) (other ∷ insert_key string_cmp texts text)
    ∙ ap (λ rest. match_ordering (string_cmp text other) (string_bytes text ∷ string_bytes other ∷ map string_bytes texts) (string_bytes other ∷ map string_bytes texts) (string_bytes other ∷ rest)) (inserted texts text)

-- one text more of those that are put in
pub put_in : (keys now : List (String Global)) (all left : List (String Global)) (text : String Global) (whole : List (List ℕ)) → all ≡ left ++ text ∷ [] → now ≡ insert_key string_cmp keys text
    → fold (insert_key (slice_cmp nat_cmp)) (map string_bytes keys) (map string_bytes (reverse all)) ≡ whole
    → fold (insert_key (slice_cmp nat_cmp)) (map string_bytes now) (map string_bytes (reverse left)) ≡ whole
put_in keys now all left text whole e is h =
    ap (λ k. fold (insert_key (slice_cmp nat_cmp)) k (map string_bytes (reverse left))) (ap (map string_bytes) is ∙ inserted keys text)
    ∙ sym (ap (λ l. fold (insert_key (slice_cmp nat_cmp)) (map string_bytes keys) (map string_bytes l)) (popped all left text e)) ∙ h

pub put_behind : (before after : List (List ℕ)) (text : List ℕ) → after ≡ before ++ text ∷ [] → (kept : List (List ℕ)) → kept ≡ ascending before
    → insert_key (slice_cmp nat_cmp) kept text ≡ ascending after
put_behind before after text e kept h =
    ap (λ k. insert_key (slice_cmp nat_cmp) k text) h ∙ sym (ap ascending e ∙ fold-append (insert_key (slice_cmp nat_cmp)) [] before (text ∷ []))
