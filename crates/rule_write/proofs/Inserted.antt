-- Sets as lists: what is put into them, and what is taken from a list.
use Rattle.std.proofs.Common.{◌≡◌, ℕ, List, [], ◌∷◌, ◌++◌, map, filter, Bool, true, false, cond, String, Global, Ordering, Less, Equal, Greater, string_bytes, string_cmp, nat_cmp, refl, ap, fold, sym, ◌∙◌}
use Rattle.std.specs.Ordering.{match_ordering}
use Rattle.std.specs.Cmp.Lexicographic.{slice_cmp}
use Rattle.std.specs.BTreeSet.{insert_key}
use Rattle.json_spec.specs.Written.{ascending_domains}

seen : (o : Ordering) (a b c : List (String Global)) → map string_bytes (match_ordering o a b c) ≡ match_ordering o (map string_bytes a) (map string_bytes b) (map string_bytes c)
seen Less a b c = refl
seen Equal a b c = refl
seen Greater a b c = refl

-- a text put in among others, as its bytes
pub domains_inserted : (texts : List (String Global)) (text : String Global) → map string_bytes (insert_key string_cmp texts text) ≡ insert_key (slice_cmp nat_cmp) (map string_bytes texts) (string_bytes text)
domains_inserted [] text = refl
domains_inserted (other ∷ texts) text =
    seen (string_cmp text other) (text ∷ other ∷ texts) (other ∷ texts) (other ∷ insert_key string_cmp texts text)
    ∙ ap (λ rest. match_ordering (string_cmp text other) (string_bytes text ∷ string_bytes other ∷ map string_bytes texts) (string_bytes other ∷ map string_bytes texts) (string_bytes other ∷ rest)) (domains_inserted texts text)

pub filter_snoc : {X : Type 0} (test : X → Bool) (list : List X) (x : X) → filter test (list ++ x ∷ []) ≡ filter test list ++ cond (test x) (x ∷ []) []
filter_snoc test [] x = by (test x)
  where
    by : (b : Bool) → cond b (x ∷ []) [] ≡ cond b (x ∷ []) []
    by b = refl
filter_snoc test (y ∷ list) x = by (test y) (filter_snoc test list x)
  where
    by : (b : Bool) → filter test (list ++ x ∷ []) ≡ filter test list ++ cond (test x) (x ∷ []) [] → cond b (y ∷ filter test (list ++ x ∷ [])) (filter test (list ++ x ∷ [])) ≡ cond b (y ∷ filter test list) (filter test list) ++ cond (test x) (x ∷ []) []
    by true h = ap (λ l. y ∷ l) h
    by false h = h

fold_snoc : {X Y : Type 0} (step : X → Y → X) (start : X) (list : List Y) (y : Y) → fold step start (list ++ y ∷ []) ≡ step (fold step start list) y
fold_snoc step start [] y = refl
fold_snoc step start (x ∷ list) y = fold_snoc step (step start x) list y

-- a domain more of a list is put in among those before it
pub domain_added : (texts more : List (String Global)) (text : String Global) (before after : List (List ℕ)) (domain : List ℕ) → map string_bytes texts ≡ ascending_domains before
    → more ≡ insert_key string_cmp texts text → string_bytes text ≡ domain → after ≡ before ++ domain ∷ [] → map string_bytes more ≡ ascending_domains after
domain_added texts more text before after domain same added is taken =
    ap (λ l. map string_bytes l) added ∙ domains_inserted texts text ∙ ap (λ b. insert_key (slice_cmp nat_cmp) (map string_bytes texts) b) is
    ∙ ap (λ l. insert_key (slice_cmp nat_cmp) l domain) same ∙ sym (fold_snoc (insert_key (slice_cmp nat_cmp)) [] before domain) ∙ ap ascending_domains (sym taken)
